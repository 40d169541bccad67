use Rattle.std.proofs.Common.{None, sym, subst}
use Rattle.bx_cnf.specs.Formulas.{Formula}
use Rattle.bx_search.specs.Solving.{IsReached, state_of, Finds, LearnsTo}
use Rattle.bx_search.specs.declared.learn.Learned.TheVariants.{Clause}
use Rattle.bx_search.proofs.Going.{turns-complete, turns-learned}
use Rattle.bx_search.proofs.solver.Solver.turn.Goals as goal

pub returns-in_default : goal.returns-in_default
returns-in_default c =
    let finds : Finds c.settle.new.self None = subst (Finds c.settle.new.self) c.in_default.is c.in_ok-id.ensures.finds in
    turns-complete c.args.self.now c.settle.new.self c.args.budget c.requires.reached c.in_ok-id.ensures.moves finds

pub learn-requires-clause-reached : goal.learn-requires-clause-reached
learn-requires-clause-reached c =
    subst (λ (f : Formula). IsReached f c.args.budget (state_of c.settle.new.self)) (sym c.in_ok-id.ensures.moves.formula)
    (c.in_ok-id.ensures.moves.reached c.args.budget c.requires.reached)

pub returns-in-Clause : goal.returns-in-Clause
returns-in-Clause c =
    let learns : LearnsTo c.args.budget c.in-Some.id c.settle.new.self c.learn.new.self Clause = subst (LearnsTo c.args.budget c.in-Some.id c.settle.new.self c.learn.new.self) c.in-Clause.is c.in_ok-learn.ensures in
    turns-learned c.args.self.now c.settle.new.self c.learn.new.self c.args.budget c.in-Some.id c.requires.reached c.in_ok-id.ensures.moves learns
