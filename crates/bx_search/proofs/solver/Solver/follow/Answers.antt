use Rattle.std.proofs.Common.{[], ◌∷◌, Some, refl, subst, arith, length-append}
use Rattle.bx_watch.specs.Watching.{Watch, IsLeastActive}
use Rattle.bx_watch.specs.declared.active.Active.TheVariants.{Unit}
use Rattle.bx_search.specs.States.{Assigned, current_level, watch_of}
use Rattle.bx_search.specs.Searching.{propagated}
use Rattle.bx_search.specs.Searching.Goes.{Propagates}
use Rattle.bx_search.specs.Solving.{state_of}
use Rattle.bx_search.proofs.solver.Solver.follow.Goals as goal

pub returns-in_ok-propagate-in-Unit : goal.returns-in_ok-propagate-in-Unit
returns-in_ok-propagate-in-Unit c =
    let old = c.args.self.now in
    let id = c.in-Unit.id in
    let lit = c.in-Unit.lit in
    let least : IsLeastActive (watch_of old.clauses.now (state_of old)) (Unit id lit) =
    subst (λ (w : Watch). IsLeastActive w (Unit id lit)) c.requires.agrees.watches (subst (IsLeastActive old.watched) c.in-Unit.is c.requires.least) in
    let a : Assigned = record { literal = lit; level = current_level old.trail.entries; reason = Some id } in
    (propagated (state_of old) id lit, c.in_ok-propagate-in-Unit.ensures, refl, refl, omega (arith, length-append old.trail.entries (a ∷ [])), λ budget. Propagates id lit least refl)
