use Rattle.std.proofs.Common.{◌≡◌, true, false, List, slice_get, Some, sym, subst, arith}
use Rattle.std.specs.Prelude.{Contains}
use Rattle.std.proofs.lemmas.Option.{slice_get_read, slice_get_within}
use Rattle.bx_cnf.specs.Formulas.{IsClause}
use Rattle.bx_cnf.specs.Literals.{Literal}
use Rattle.bx_watch.specs.declared.lists.Entry.{Entry}
use Rattle.bx_watch.specs.declared.watches.Pair.{Pair}
use Rattle.bx_watch.specs.Watches.{HasOther}
use Rattle.bx_watch.specs.Watching.{IsOver}
use Rattle.bx_watch.specs.Lists.{list_of}
use Rattle.bx_watch.specs.Keeping.{tables_of, Visits}
use Rattle.bx_watch.proofs.Keeps.{over-in, All-at, has-at, one-at, visits-true, visits-none}
use Rattle.bx_watch.proofs.Moves.{other-in, if-ok-map}
use Rattle.bx_watch.proofs.watches.Watches.stays.Goals as goal

pub is_true-requires : goal.is_true-requires
is_true-requires c =
    let e = c.entry-entry.result in
    let (clause, at, blocker) = c.requires.kept.entries c.args.lit e c.requires.over (has-at (list_of c.args.self.now.lists c.args.lit) c.args.at e c.entry-entry.ensures) in
    subst (λ n. IsOver n e.blocker) (sym c.requires.one_size) (over-in c.args.store.now.vars clause e.blocker (All-at (IsClause c.args.store.now.vars) c.args.store.now.clauses e.clause clause c.requires.formed.each at) blocker)

pub returns-then-is_true : goal.returns-then-is_true
returns-then-is_true c entry stands =
    let e = c.entry-entry.result in
    let (clause, at, blocker) = c.requires.kept.entries c.args.lit e c.requires.over (has-at (list_of c.args.self.now.lists c.args.lit) c.args.at e c.entry-entry.ensures) in
    subst (λ (d : Entry). Visits c.args.store.now c.args.trail.now.literals c.args.lit d.clause (tables_of c.args.self.now) (tables_of c.args.self.now) true) (one-at (list_of c.args.self.now.lists c.args.lit) c.args.at e entry c.entry-entry.ensures stands)
    (visits-true c.args.store.now c.args.trail.now.literals c.args.lit e.clause (tables_of c.args.self.now) clause c.requires.kept at (e.blocker, blocker, c.is_true.ensures.yes c.if-is_true.true))

pub index-requires : goal.index-requires
index-requires c =
    let e = c.entry-entry.result in
    let (clause, at, blocker) = c.requires.kept.entries c.args.lit e c.requires.over (has-at (list_of c.args.self.now.lists c.args.lit) c.args.at e c.entry-entry.ensures) in
    omega (arith, slice_get_within c.args.store.now.clauses e.clause clause at, c.requires.kept.sized, c.args.self.now.pairs.ok.0)

pub rewatch-requires-clause-within : goal.rewatch-requires-clause-within
rewatch-requires-clause-within c =
    let e = c.entry-entry.result in
    let (clause, at, blocker) = c.requires.kept.entries c.args.lit e c.requires.over (has-at (list_of c.args.self.now.lists c.args.lit) c.args.at e c.entry-entry.ensures) in
    slice_get_within c.args.store.now.clauses e.clause clause at

pub rewatch-requires-clause-watched : goal.rewatch-requires-clause-watched
rewatch-requires-clause-watched c pair at =
    let pairs = c.args.self.now.pairs in
    let e = c.entry-entry.result in
    let at_index : slice_get pairs.items e.clause ≡ Some c.index.result.now = slice_get_read pairs.items pairs.len e.clause c.index.result.now pairs.ok.0 (omega (arith, slice_get_within pairs.items e.clause pair at, pairs.ok.0)) c.index.ensures in
    subst (λ (p : Pair). HasOther p c.args.lit (Some c.in-Some.other)) (one-at pairs.items e.clause c.index.result.now pair at_index at) (subst (HasOther c.index.result.now c.args.lit) c.in-Some.is c.other.ensures)

pub rewatch-requires-clause-has_other : goal.rewatch-requires-clause-has_other
rewatch-requires-clause-has_other c literals at =
    let pairs = c.args.self.now.pairs in
    let e = c.entry-entry.result in
    let (clause, at_clause, blocker) = c.requires.kept.entries c.args.lit e c.requires.over (has-at (list_of c.args.self.now.lists c.args.lit) c.args.at e c.entry-entry.ensures) in
    let at_index : slice_get pairs.items e.clause ≡ Some c.index.result.now = slice_get_read pairs.items pairs.len e.clause c.index.result.now pairs.ok.0
    (omega (arith, slice_get_within c.args.store.now.clauses e.clause literals at, c.requires.kept.sized, pairs.ok.0)) c.index.ensures in
    other-in c.args.store.now c.args.trail.now.literals (tables_of c.args.self.now) e.clause literals c.index.result.now c.args.lit c.in-Some.other e.blocker c.requires.kept at at_index
    (subst (λ (ls : List Literal). Contains ls e.blocker) (one-at c.args.store.now.clauses e.clause clause literals at_clause at) blocker) (subst (HasOther c.index.result.now c.args.lit) c.in-Some.is c.other.ensures)

pub returns-in-None : goal.returns-in-None
returns-in-None c entry stands =
    let pairs = c.args.self.now.pairs in
    let e = c.entry-entry.result in
    let (clause, at_clause, blocker) = c.requires.kept.entries c.args.lit e c.requires.over (has-at (list_of c.args.self.now.lists c.args.lit) c.args.at e c.entry-entry.ensures) in
    let at_index : slice_get pairs.items e.clause ≡ Some c.index.result.now = slice_get_read pairs.items pairs.len e.clause c.index.result.now pairs.ok.0
    (omega (arith, slice_get_within c.args.store.now.clauses e.clause clause at_clause, c.requires.kept.sized, pairs.ok.0)) c.index.ensures in
    subst (λ (d : Entry). Visits c.args.store.now c.args.trail.now.literals c.args.lit d.clause (tables_of c.args.self.now) (tables_of c.args.self.now) false) (one-at (list_of c.args.self.now.lists c.args.lit) c.args.at e entry c.entry-entry.ensures stands)
    (visits-none c.args.store.now c.args.trail.now.literals c.args.lit e.clause (tables_of c.args.self.now) c.index.result.now c.requires.kept at_index (subst (HasOther c.index.result.now c.args.lit) c.in-None.is c.other.ensures))

pub returns-in-Some : goal.returns-in-Some
returns-in-Some c =
    let e = c.entry-entry.result in
    if-ok-map c.rewatch.result _ _ c.rewatch.ensures
    (λ stays visits entry stands. subst (λ (d : Entry). Visits c.args.store.now c.args.trail.now.literals c.args.lit d.clause (tables_of c.args.self.now) (tables_of c.rewatch.new.self) stays) (one-at (list_of c.args.self.now.lists c.args.lit) c.args.at e entry c.entry-entry.ensures stands) visits)
