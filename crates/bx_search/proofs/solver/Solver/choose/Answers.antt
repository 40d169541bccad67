use Rattle.std.proofs.Common.{◌≡◌, ◌∙◌, ◌+◌, ◌-◌, [], ◌∷◌, Some, None, false, get_or, refl, sym, subst, arith, length-append}
use Rattle.bx_queue.specs.Queue.{Queue}
use Rattle.bx_search.specs.States.{Assigned, current_level, first_free}
use Rattle.bx_search.specs.Searching.{decided}
use Rattle.bx_search.specs.Searching.Goes.{Decides}
use Rattle.bx_search.specs.Solving.{state_of, Becomes}
use Rattle.bx_search.proofs.Solving.{first-same, itself}
use Rattle.bx_search.proofs.solver.Solver.choose.Goals as goal

pub returns-in_default : goal.returns-in_default
returns-in_default c =
    let old = c.args.self.now in (
      subst (λ (q : Queue). Becomes old (record old { queue = q }) (state_of old)) (sym c.first_unassigned.ensures.stays) (itself old c.requires.agrees),
      c.requires.quiet,
      first-same old c.requires.agrees ∙ sym c.first_unassigned.ensures.first ∙ c.in_default.is,
    )

pub decide-requires-clause-first : goal.decide-requires-clause-first
decide-requires-clause-first c =
    let old = c.args.self.now in
    subst (λ (q : Queue). first_free (state_of (record old { queue = q })) ≡ Some c.in-Some.var) (sym c.first_unassigned.ensures.stays)
    (first-same old c.requires.agrees ∙ sym c.first_unassigned.ensures.first ∙ c.in-Some.is)

pub returns : goal.returns
returns c =
    let old = c.args.self.now in
    let var = c.in-Some.var in
    let becomes : Becomes old c.decide.new.self (decided (state_of old) var) =
    subst (λ (q : Queue). Becomes (record old { queue = q }) c.decide.new.self (decided (state_of (record old { queue = q })) var)) c.first_unassigned.ensures.stays c.in_ok-decide.ensures in
    let a : Assigned = record { literal = record { var = var; positive = get_or old.phases.items (var - 1) false }; level = current_level old.trail.entries + 1; reason = None } in (
      decided (state_of old) var,
      becomes,
      refl,
      refl,
      omega (arith, length-append old.trail.entries (a ∷ [])),
      λ budget. Decides var c.requires.quiet (first-same old c.requires.agrees ∙ sym c.first_unassigned.ensures.first ∙ c.in-Some.is) refl,
    )
