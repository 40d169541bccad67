use Rattle.std.proofs.Common.{◌≡◌, ◌≢◌, ◌∙◌, ◌+◌, ◌≤◌, ◌==◌, [], length, ap, sym, subst, arith}
use Rattle.bx_cnf.specs.Formulas.{Formula, IsClause}
use Rattle.bx_search.specs.States.{State}
use Rattle.bx_search.specs.Searching.{cost}
use Rattle.bx_search.specs.Solving.{state_of, step_of}
use Rattle.bx_search.specs.declared.analyze.Analysis.{Analysis}
use Rattle.bx_search.proofs.Learned.{analyzed, analyzed-clause, analyzed-step, analyzed-room, is-bounded, learned-becomes, filled}
use Rattle.bx_search.proofs.solver.Solver.learn.Goals as goal

pub is_within-requires : goal.is_within-requires
is_within-requires c =
    let is = analyzed c.args.self.now c.analyze.new.self c.args.budget c.args.id c.requires.reached c.requires.fails c.in_ok-analyze.ensures in
    (is-bounded c.analyze.new.self.clauses.now c.args.budget (state_of c.analyze.new.self) is.reached).1

pub add_step-requires-clause-step : goal.add_step-requires-clause-step
add_step-requires-clause-step c =
    let is = analyzed c.args.self.now c.analyze.new.self c.args.budget c.args.id c.requires.reached c.requires.fails c.in_ok-analyze.ensures in
    let within : c.analyze.new.self.spent + cost (step_of c.analyze.new.self) ≤ c.args.budget = c.is_within.ensures.0 c.if-not-is_within.false in
    analyzed-step c.analyze.new.self c.args.budget c.args.id is (omega (arith, c.requires.room, ap (λ (f : Formula). length f.clauses) c.in_ok-analyze.ensures.becomes.formula)) within

pub add_step-requires-clause-clause : goal.add_step-requires-clause-clause
add_step-requires-clause-clause c =
    let is = analyzed c.args.self.now c.analyze.new.self c.args.budget c.args.id c.requires.reached c.requires.fails c.in_ok-analyze.ensures in
    analyzed-clause c.analyze.new.self c.args.budget c.args.id is

pub add_step-requires-clause-room : goal.add_step-requires-clause-room
add_step-requires-clause-room c =
    let is = analyzed c.args.self.now c.analyze.new.self c.args.budget c.args.id c.requires.reached c.requires.fails c.in_ok-analyze.ensures in
    let within : c.analyze.new.self.spent + cost (step_of c.analyze.new.self) ≤ c.args.budget = c.is_within.ensures.0 c.if-not-is_within.false in
    analyzed-room c.analyze.new.self c.args.budget c.args.id is (omega (arith, c.requires.room, ap (λ (f : Formula). length f.clauses) c.in_ok-analyze.ensures.becomes.formula)) within

pub go_back-requires-clause-clause : goal.go_back-requires-clause-clause
go_back-requires-clause-clause c =
    let is = analyzed c.args.self.now c.analyze.new.self c.args.budget c.args.id c.requires.reached c.requires.fails c.in_ok-analyze.ensures in
    subst (λ (f : Formula). IsClause f.vars c.add_step.new.self.analysis.literals.items) (sym c.in_ok-add_step.ensures.state.formula)
    (subst (λ (a : Analysis). IsClause c.analyze.new.self.clauses.now.vars a.literals.items) (sym c.in_ok-add_step.ensures.kept)
    (analyzed-clause c.analyze.new.self c.args.budget c.args.id is))

pub returns : goal.returns
returns c =
    let old = c.args.self.now in
    let new = c.analyze.new.self in
    let spent : new.spent ≡ old.spent = ap (λ (s : State). s.spent) c.in_ok-analyze.ensures.becomes.state in
    let within : new.spent + cost (step_of new) ≤ c.args.budget = c.is_within.ensures.0 c.if-not-is_within.false in
    let some : new.analysis.literals.items ≢ [] = λ none.
    filled c.is_empty.result c.add_step.new.self.analysis.literals.items (c.is_empty.ensures ∙ ap (λ n. n == 0) c.add_step.new.self.analysis.literals.ok.0) c.if-is_empty.false (ap (λ (a : Analysis). a.literals.items) c.in_ok-add_step.ensures.kept ∙ none) in (
      step_of new,
      record { least = c.requires.fails; learned = c.in_ok-analyze.ensures.learned },
      omega (arith, within, spent),
      some,
      learned-becomes old new c.add_step.new.self c.go_back.new.self c.args.id c.in_ok-analyze.ensures c.in_ok-add_step.ensures.state c.in_ok-add_step.ensures.kept c.in_ok-go_back.ensures,
    )
