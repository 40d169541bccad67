use Rattle.std.proofs.Common.{◌≡◌, slice_get, Some, refl, sym, subst, arith, rules}
use Rattle.std.proofs.lemmas.Option.{slice_get_read}
use Rattle.bx_cnf.specs.Formulas.{IsClause}
use Rattle.bx_watch.specs.Watching.{IsOver}
use Rattle.bx_watch.specs.Keeping.{tables_of}
use Rattle.bx_watch.proofs.Keeps.{over-in, All-at, visits-true, visits-insert}
use Rattle.bx_watch.proofs.Moves.{clause-at, visits-move}
use Rattle.bx_watch.proofs.watches.Watches.rewatch.Goals as goal

pub is_true-requires : goal.is_true-requires
is_true-requires c =
    let (clause, at) = clause-at c.args.store.now.clauses c.args.clause c.requires.within in
    subst (λ n. IsOver n c.args.other) (sym c.requires.one_size) (over-in c.args.store.now.vars clause c.args.other (All-at (IsClause c.args.store.now.vars) c.args.store.now.clauses c.args.clause clause c.requires.formed.each at) (c.requires.has_other clause at))

pub returns-then-is_true : goal.returns-then-is_true
returns-then-is_true c =
    let (clause, at) = clause-at c.args.store.now.clauses c.args.clause c.requires.within in
    visits-true c.args.store.now c.args.trail.now.literals c.args.lit c.args.clause (tables_of c.args.self.now) clause c.requires.kept at (c.args.other, c.requires.has_other clause at, c.is_true.ensures.yes c.if-is_true.true)

pub returns-in_default : goal.returns-in_default
returns-in_default c =
    let pairs = c.args.self.now.pairs in
    let at_pair : slice_get pairs.items c.args.clause ≡ Some c.index-pair.result.now = slice_get_read pairs.items pairs.len c.args.clause c.index-pair.result.now pairs.ok.0 (omega (arith, c.requires.within, c.requires.kept.sized, pairs.ok.0)) c.index-pair.ensures in
    visits-insert c.args.store.now c.args.trail.now.literals c.args.lit c.args.clause (tables_of c.args.self.now) c.insert.new.self c.clause.result.now c.index-pair.result.now c.requires.kept c.clause.ensures.value at_pair (c.spare.ensures.none (search rules)) c.insert.ensures

pub returns : goal.returns
returns c =
    let pairs = c.args.self.now.pairs in
    let at_pair : slice_get pairs.items c.args.clause ≡ Some c.index-pair.result.now = slice_get_read pairs.items pairs.len c.args.clause c.index-pair.result.now pairs.ok.0 (omega (arith, c.requires.within, c.requires.kept.sized, pairs.ok.0)) c.index-pair.ensures in
    visits-move c.args.store.now c.args.trail.now.literals c.args.lit c.args.other c.in-Some.spare c.args.clause c.clause.result.now c.index-pair.result.now (tables_of c.args.self.now) _ c.requires.formed c.requires.over c.requires.kept (record {
      at = c.clause.ensures.value;
      at_pair = at_pair;
      two = c.requires.watched c.index-pair.result.now at_pair;
      in_clause = c.in-Some.ensures.some.0;
      isnt = c.in-Some.ensures.some.1;
      not_false = c.in-Some.ensures.some.2;
      pairs = refl;
      pending = refl;
      pushes = c.in_ok-push.ensures;
    })
