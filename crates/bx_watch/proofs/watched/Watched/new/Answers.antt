use Rattle.std.proofs.Common.{◌≡◌, sym, ◌∙◌, ap, subst}
use Rattle.bx_cnf.specs.Formulas.{Formula, IsFormula}
use Rattle.bx_watch.specs.Readings.{Assigned, IsTrail}
use Rattle.bx_watch.specs.Keeping.{tables_of}
use Rattle.bx_watch.proofs.Parking.{pending-start}
use Rattle.bx_watch.proofs.Events.{whole-cleaned, trail-none}
use Rattle.bx_watch.proofs.watched.Watched.new.Goals as goal

pub invariant_of-result : goal.invariant_of-result
invariant_of-result c _ =
    let formed : IsFormula c.new-store.result = subst IsFormula (sym c.new-store.ensures) c.vars.ensures.formed in
    let trail : IsTrail c.in_ok-trail.trail = subst IsTrail (sym c.in_ok-trail.ensures) (trail-none c.vars.result) in
    let size : c.in_ok-trail.trail.vars ≡ c.new-store.result.vars =
    ap (λ (a : Assigned). a.vars) c.in_ok-trail.ensures ∙ (c.vars.ensures.vars ∙ sym (ap (λ (f : Formula). f.vars) c.new-store.ensures)) in
    whole-cleaned c.new-store.result c.in_ok-trail.trail (tables_of c.in_ok-watches.watches) (tables_of c.clean.new.self) c.clean.new.parked formed trail size c.in_ok-watches.ensures.kept c.in_ok-clean.ensures

pub clean-requires-clause-pending : goal.clean-requires-clause-pending
clean-requires-clause-pending c =
    pending-start c.new-store.result c.in_ok-trail.trail.literals c.in_ok-watches.watches.pending c.in_ok-parked.parked (ap (λ (a : Assigned). a.literals) c.in_ok-trail.ensures) c.in_ok-watches.ensures.pending
