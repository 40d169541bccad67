use Rattle.std.proofs.Common.{◌≡◌, ◌≢◌, ℕ, ◌+◌, ◌≤◌, length, sym, ◌∙◌, subst}
use Rattle.bx_cnf.specs.Formulas.{Formula, AllTrue}
use Rattle.bx_proof.specs.Accepted.{IsAccepted}
use Rattle.bx_search.specs.Searching.{IsSearch, enough}
use Rattle.bx_search.specs.Solving.{IsAnswer}
use Rattle.bx_search.specs.declared.outcome.Outcome.{Outcome}
use Rattle.bx_search.specs.declared.outcome.Outcome.TheVariants.{Undecided, Stopped}
use Rattle.bx_search.proofs.Enough.{decided-within}
use Rattle.bx_search.proofs.Going.{if-ok}
use Rattle.bx_search.proofs.search.solve.Goals as goal

pub returns-clause-at_most : goal.returns-clause-at_most
returns-clause-at_most g c = λ end n found.
    c.answer.ensures.at_most end n (subst (λ (f : Formula). IsSearch f c.args.budget end n) (sym c.in_ok-solver.ensures.formula) found)

pub returns-clause-ended : goal.returns-clause-ended
returns-clause-ended g c =
    let pulse = c.answer.new.pulse in
    if-ok c.answer.result (λ end. IsAnswer c.in_ok-solver.solver.clauses.now c.args.budget end (g.P.Pulse.asked c.args.pulse.now) (g.P.Pulse.asked pulse)
    (g.P.Pulse.stops c.args.pulse.now) (g.P.Pulse.stops pulse)) _ c.answer.ensures.answers
    (λ end is goes_on. subst (λ (f : Formula). (n : ℕ) × IsSearch f c.args.budget end n × (g.P.Pulse.asked pulse ≡ g.P.Pulse.asked c.args.pulse.now + n)) c.in_ok-solver.ensures.formula (is.ended goes_on))

pub returns-clause-solved : goal.returns-clause-solved
returns-clause-solved g c =
    let pulse = c.answer.new.pulse in
    if-ok c.answer.result (λ end. IsAnswer c.in_ok-solver.solver.clauses.now c.args.budget end (g.P.Pulse.asked c.args.pulse.now) (g.P.Pulse.asked pulse)
    (g.P.Pulse.stops c.args.pulse.now) (g.P.Pulse.stops pulse)) _ c.answer.ensures.answers
    (λ end is bits e. subst (λ (f : Formula). (length bits ≡ f.vars) × AllTrue bits f.clauses) c.in_ok-solver.ensures.formula (is.solved bits e))

pub returns-clause-accepted : goal.returns-clause-accepted
returns-clause-accepted g c =
    let pulse = c.answer.new.pulse in
    if-ok c.answer.result (λ end. IsAnswer c.in_ok-solver.solver.clauses.now c.args.budget end (g.P.Pulse.asked c.args.pulse.now) (g.P.Pulse.asked pulse)
    (g.P.Pulse.stops c.args.pulse.now) (g.P.Pulse.stops pulse)) _ c.answer.ensures.answers
    (λ end is log e. subst (λ (f : Formula). IsAccepted f log) c.in_ok-solver.ensures.formula (is.accepted log e))

pub returns-clause-decides : goal.returns-clause-decides
returns-clause-decides g c =
    let pulse = c.answer.new.pulse in
    let formula : Formula = c.in_ok-solver.solver.clauses.now in
    if-ok c.answer.result (λ end. IsAnswer formula c.args.budget end (g.P.Pulse.asked c.args.pulse.now) (g.P.Pulse.asked pulse)
    (g.P.Pulse.stops c.args.pulse.now) (g.P.Pulse.stops pulse)) _ c.answer.ensures.answers
    (λ end is. subst (λ (f : Formula). enough f.vars ≤ c.args.budget → (spent : ℕ) → end ≢ Undecided spent) c.in_ok-solver.ensures.formula
    (λ pays spent e. (let (n, found, asked) = is.ended (λ stopped. differ spent (sym e ∙ stopped)) in
    decided-within formula c.args.budget n spent c.in_ok-solver.ensures.agrees.formed pays (subst (λ (x : Outcome). IsSearch formula c.args.budget x n) e found))))
  where
    differ : (spent : ℕ) → Undecided spent ≡ Stopped → ⊥
    differ spent e = cc
