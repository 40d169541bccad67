use Rattle.std.proofs.Common.{◌≡◌, ℕ, ◌+◌, subst}
use Rattle.bx_cnf.specs.Formulas.{Formula}
use Rattle.bx_search.specs.Searching.{IsSearch}
use Rattle.bx_search.proofs.search.solve_counted.Goals as goal

pub returns-clause-ended : goal.returns-clause-ended
returns-clause-ended g c goes_on =
    let pulse = c.answer.new.pulse in
    subst (λ (f : Formula). (n : ℕ) × IsSearch f c.args.budget c.in_ok-end.end n × (g.P.Pulse.asked pulse ≡ g.P.Pulse.asked c.args.pulse.now + n)) c.in_ok-solver.ensures.formula (c.in_ok-end.ensures.answers.ended goes_on)
