use Rattle.std.proofs.Common.{◌≡◌, ◌∙◌, List, Bool, Result, Ok, Err, ap, sym, subst}
use Rattle.std.specs.Prelude.{OnErr}
use Rattle.bx_search.specs.Solving.{outcome_of, IsAnswer}
use Rattle.bx_search.specs.declared.outcome.Outcome.{Outcome}
use Rattle.bx_search.specs.declared.outcome.Outcome.TheVariants.{Sat, Stopped}
use Rattle.bx_search.proofs.Going.{if-ok}
use Rattle.bx_search.proofs.solver.Solver.answer.Goals as goal

on-err : {T E P Q : Type 0} (r : Result T E) → OnErr r P → (P → Q) → OnErr r Q
on-err (Ok x) p f = tt
on-err (Err e) p f = f p

not-stopped : (bits : List Bool) → Sat bits ≡ Stopped → ⊥
not-stopped bits e = cc

pub returns-clause-answers : goal.returns-clause-answers
returns-clause-answers g c =
    let run = c.run.new in
    if-ok c.outcome.result (λ end. end ≡ outcome_of run.self c.in_ok-halt.halt) _ c.outcome.ensures.ok
    (λ end is. subst (λ (x : Outcome). IsAnswer c.args.self.now.clauses.now c.args.budget x (g.P.Pulse.asked c.args.pulse.now) (g.P.Pulse.asked run.pulse)
    (g.P.Pulse.stops c.args.pulse.now) (g.P.Pulse.stops run.pulse)) (sym is) c.in_ok-halt.ensures.answers)

pub returns-clause-no_memory : goal.returns-clause-no_memory
returns-clause-no_memory g c =
    on-err c.outcome.result c.outcome.ensures.err
    (λ whole. c.in_ok-halt.ensures.answers.not_stopped (λ e. not-stopped _ (sym (ap (outcome_of c.run.new.self) whole) ∙ e)))

pub returns-clause-still_ready : goal.returns-clause-still_ready
returns-clause-still_ready g c =
    if-ok c.outcome.result (λ end. end ≡ outcome_of c.run.new.self c.in_ok-halt.halt) _ c.outcome.ensures.ok
    (λ end is other. c.in_ok-halt.ensures.still_ready (λ e. other (is ∙ ap (outcome_of c.run.new.self) e)))
