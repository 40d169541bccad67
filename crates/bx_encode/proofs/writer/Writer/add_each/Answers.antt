-- One clause more, of which the literals behind those that stand before are taken off again.
use Rattle.std.proofs.Common.{[], ◌∷◌, get_or, refl, ap, arith}
use Rattle.std.proofs.lemmas.List.{get_or_default}
use Rattle.bx_encode.specs.declared.variable.Variable.TheVariants.{EdgeOn}
use Rattle.bx_encode.specs.Variables.{isnt}
use Rattle.bx_encode.proofs.Adding.{adds-by, adds-item, item-in, made, clause-as, taken-off}
use Rattle.bx_encode.proofs.writer.Writer.add_each.Goals as goal

pub isnt-requires : goal.isnt-requires
isnt-requires c = (c.requires.edge, c.requires.borders _ (item-in c.args.borders.now c.loop-b.b-index 0 c.loop-b-test.true))

pub push-requires-in-loop-b : goal.push-requires-in-loop-b
push-requires-in-loop-b c =
    clause-as _ _ _ _ c.loop-b.invariant.adds.vars
    (made c.deref.result.now _ _ _ _ c.args.behind.now c.isnt.result _ c.deref.ensures.value c.in_ok-extend_from_slice.ensures.items c.in_ok-push.ensures.items c.loop-b.invariant.before c.isnt.ensures)
    (c.requires.clause _ (item-in c.args.borders.now c.loop-b.b-index 0 c.loop-b-test.true))

pub loop-b-preserved : goal.loop-b-preserved
loop-b-preserved c =
    let b = get_or c.args.borders.now c.loop-b.b-index 0 in
    let clause = made c.deref.result.now _ _ _ _ c.args.behind.now c.isnt.result (isnt c.args.frame.now.net.now c.args.frame.now.ratio (EdgeOn c.args.e b)) c.deref.ensures.value c.in_ok-extend_from_slice.ensures.items c.in_ok-push.ensures.items c.loop-b.invariant.before c.isnt.ensures in
    record {
      adds =
          adds-item _ c.args.borders.now b _ _ _ c.loop-b.b-index c.loop-b-test.true
          (get_or_default c.args.borders.now c.loop-b.b-index 0 b c.loop-b-test.true) c.loop-b.invariant.adds
          (adds-by c.loop-b.self.clauses c.push-in-loop-b.new.clauses _ _ (ap (λ y. y ∷ []) clause) c.in_ok-push-2.ensures);
      before =
          taken-off _ _ c.args.self.now.list.items _ c.len-length.result c.truncate.ensures.items
          (made _ _ _ _ _ c.args.behind.now c.isnt.result (isnt c.args.frame.now.net.now c.args.frame.now.ratio (EdgeOn c.args.e b)) refl c.in_ok-extend_from_slice.ensures.items c.in_ok-push.ensures.items c.loop-b.invariant.before c.isnt.ensures)
          (omega (arith, c.len-length.ensures, c.args.self.now.list.ok.0));
    }
