use Rattle.std.proofs.Common.{◌≡◌, ◌<◌, List, [], ◌∷◌, ◌++◌, length, get_or, take, map, sym, ap, ◌∙◌, subst, arith}
use Rattle.std.proofs.lemmas.List.Elements.{All-push}
use Rattle.std.specs.Prelude.{All}
use Rattle.bx_library.specs.declared.dot.Dot.{Dot}
use Rattle.bx_library.specs.declared.values.Triple.{Triple}
use Rattle.bx_library.specs.Tiles.{IsInside}
use Rattle.bx_library.specs.Triples.{triple_dot}
use Rattle.bx_library.proofs.Checks.{front_more}
use Rattle.bx_library.proofs.forms.inside_dots.Goals as goal

pub loop-k-preserved : goal.loop-k-preserved
loop-k-preserved c =
    let below : c.loop-k.k < length c.args.listed.now = omega arith in
    let none : Triple = record { n = 0; m = 0; l = 0 } in
    let dots : List Dot = map triple_dot c.args.listed.now in
    let is : c.in-Some.dot ≡ triple_dot (get_or c.args.listed.now c.loop-k.k none) = c.in-Some.ensures.some.0 in
    let more = front_more c.args.listed.now c.loop-k.k none below in
    record {
      same = c.in_ok-push.ensures.items ∙ ap (λ l. l ++ c.in-Some.dot ∷ []) c.loop-k.invariant.same ∙ ap (λ x. take c.loop-k.k dots ++ x ∷ []) is ∙ sym more;
      inside = subst (All (IsInside c.args.width c.args.height)) (sym more)
          (All-push (IsInside c.args.width c.args.height) (take c.loop-k.k dots) (triple_dot (get_or c.args.listed.now c.loop-k.k none)) c.loop-k.invariant.inside
          (subst (IsInside c.args.width c.args.height) is c.in-Some.ensures.some.1));
    }
