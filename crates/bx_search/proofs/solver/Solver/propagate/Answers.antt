use Rattle.std.proofs.Common.{◌∙◌, ℕ, Bool, ap₂, ◌-◌, Some, true, set, length-set, refl, ap, arith}
use Rattle.bx_queue.specs.Queue.{IsVariable}
use Rattle.bx_search.specs.States.{Assigned, current_level}
use Rattle.bx_search.proofs.Solving.{free-unassigned, assigns, on-ok}
use Rattle.bx_search.proofs.solver.Solver.propagate.Goals as goal

pub assigned-requires-clause-is_free : goal.assigned-requires-clause-is_free
assigned-requires-clause-is_free c =
    let variable : IsVariable c.args.self.now.clauses.now.vars c.args.lit.var = (omega (arith, c.requires.over.0), c.requires.over.1) in
    rw c.var-2.ensures.var (c.requires.agrees.takes.same c.args.lit.var variable ∙ free-unassigned c.args.self.now.trail.entries c.args.lit c.requires.leaves.is_so.1)

pub returns : goal.returns
returns c =
    let old = c.args.self.now in
    let variable : IsVariable old.clauses.now.vars c.args.lit.var = (omega (arith, c.requires.over.0), c.requires.over.1) in
    let a : Assigned = record { literal = c.args.lit; level = current_level old.trail.entries; reason = Some c.args.id } in
    on-ok c.assigned-2.result c.assigned-2.ensures.ok (λ watched.
    assigns old _ a (set old.phases.items (c.args.lit.var - 1) c.args.lit.positive) c.requires.agrees variable
    (free-unassigned old.trail.entries c.args.lit c.requires.leaves.is_so.1)
    refl watched (c.assigned.ensures ∙ ap (λ v. record old.queue { taken = set old.queue.taken (v - 1) true }) c.var-2.ensures.var) c.in_ok-push_unit.ensures
    (ap₂ (λ (v : ℕ) (b : Bool). set old.phases.items (v - 1) b) c.var.ensures.var c.is_positive.ensures) (length-set old.phases.items (c.args.lit.var - 1) c.args.lit.positive) refl refl refl)
