use Rattle.std.proofs.Common.{sym, subst, refl}
use Rattle.bx_search.specs.States.{values}
use Rattle.bx_search.specs.Solving.{EndsSo, TurnsTo}
use Rattle.bx_search.specs.declared.outcome.Outcome.TheVariants.{Sat, Unsat, Undecided}
use Rattle.bx_search.specs.declared.search.Turn.TheVariants.{Learned as More, Complete as Whole, Beyond as Over, Empty as None_left}
use Rattle.bx_search.proofs.Going.{running-first, running-on, running-most, answered-end}
use Rattle.bx_search.proofs.solver.Solver.run.Goals as goal

pub loop-pulse-init : goal.loop-pulse-init
loop-pulse-init g c = (
  running-first c.args.self.now.clauses.now c.args.budget (g.P.Pulse.asked c.args.pulse.now) (g.P.Pulse.stops c.args.pulse.now) c.args.self.now
      c.requires.agrees refl c.requires.starts,
  c.requires.ready,
  g.met.P.Pulse.leads_to_itself c.args.pulse.now,
)

pub returns-in_err-turn-clause-at_most : goal.returns-in_err-turn-clause-at_most
returns-in_err-turn-clause-at_most g c =
    running-most c.args.self.now.clauses.now c.args.budget (g.P.Pulse.asked c.args.pulse.now) (g.P.Pulse.asked c.loop-pulse.pulse) (g.P.Pulse.stops c.args.pulse.now) (g.P.Pulse.stops c.loop-pulse.pulse)
    c.loop-pulse.self c.loop-pulse.invariant.0

pub returns-in-Complete-clause-answers : goal.returns-in-Complete-clause-answers
returns-in-Complete-clause-answers g c =
    let old = c.loop-pulse.self in
    let new = c.turn.new.self in
    let turn : TurnsTo c.args.budget old new Whole = subst (TurnsTo c.args.budget old new) c.in-Complete.is c.in_ok-turn.ensures in
    let ends : EndsSo c.args.budget old (Sat (values new.trail.vars new.trail.entries)) =
    subst (λ n. EndsSo c.args.budget old (Sat (values n new.trail.entries))) (sym turn.0) turn.1 in
    answered-end c.args.self.now.clauses.now c.args.budget (Sat (values new.trail.vars new.trail.entries)) (g.P.Pulse.asked c.args.pulse.now) (g.P.Pulse.asked c.loop-pulse.pulse)
    (g.P.Pulse.stops c.args.pulse.now) (g.P.Pulse.stops c.loop-pulse.pulse) old c.loop-pulse.invariant.0 ends

pub returns-in-Complete-clause-at_most : goal.returns-in-Complete-clause-at_most
returns-in-Complete-clause-at_most g c =
    running-most c.args.self.now.clauses.now c.args.budget (g.P.Pulse.asked c.args.pulse.now) (g.P.Pulse.asked c.loop-pulse.pulse) (g.P.Pulse.stops c.args.pulse.now) (g.P.Pulse.stops c.loop-pulse.pulse)
    c.loop-pulse.self c.loop-pulse.invariant.0

pub returns-in-Beyond-clause-answers : goal.returns-in-Beyond-clause-answers
returns-in-Beyond-clause-answers g c =
    let old = c.loop-pulse.self in
    let new = c.turn.new.self in
    let ends : TurnsTo c.args.budget old new Over = subst (TurnsTo c.args.budget old new) c.in-Beyond.is c.in_ok-turn.ensures in
    answered-end c.args.self.now.clauses.now c.args.budget (Undecided new.spent) (g.P.Pulse.asked c.args.pulse.now) (g.P.Pulse.asked c.loop-pulse.pulse)
    (g.P.Pulse.stops c.args.pulse.now) (g.P.Pulse.stops c.loop-pulse.pulse) old c.loop-pulse.invariant.0 ends

pub returns-in-Beyond-clause-at_most : goal.returns-in-Beyond-clause-at_most
returns-in-Beyond-clause-at_most g c =
    running-most c.args.self.now.clauses.now c.args.budget (g.P.Pulse.asked c.args.pulse.now) (g.P.Pulse.asked c.loop-pulse.pulse) (g.P.Pulse.stops c.args.pulse.now) (g.P.Pulse.stops c.loop-pulse.pulse)
    c.loop-pulse.self c.loop-pulse.invariant.0

pub returns-in-Empty-clause-answers : goal.returns-in-Empty-clause-answers
returns-in-Empty-clause-answers g c =
    let old = c.loop-pulse.self in
    let new = c.turn.new.self in
    let ends : TurnsTo c.args.budget old new None_left = subst (TurnsTo c.args.budget old new) c.in-Empty.is c.in_ok-turn.ensures in
    answered-end c.args.self.now.clauses.now c.args.budget (Unsat new.steps) (g.P.Pulse.asked c.args.pulse.now) (g.P.Pulse.asked c.loop-pulse.pulse)
    (g.P.Pulse.stops c.args.pulse.now) (g.P.Pulse.stops c.loop-pulse.pulse) old c.loop-pulse.invariant.0 ends

pub returns-in-Empty-clause-at_most : goal.returns-in-Empty-clause-at_most
returns-in-Empty-clause-at_most g c =
    running-most c.args.self.now.clauses.now c.args.budget (g.P.Pulse.asked c.args.pulse.now) (g.P.Pulse.asked c.loop-pulse.pulse) (g.P.Pulse.stops c.args.pulse.now) (g.P.Pulse.stops c.loop-pulse.pulse)
    c.loop-pulse.self c.loop-pulse.invariant.0

pub returns-then-not-wanted-clause-at_most : goal.returns-then-not-wanted-clause-at_most
returns-then-not-wanted-clause-at_most g c =
    let old = c.loop-pulse.self in
    let new = c.turn.new.self in
    let turn : TurnsTo c.args.budget old new More = subst (TurnsTo c.args.budget old new) c.in-Learned.is c.in_ok-turn.ensures in
    running-most c.args.self.now.clauses.now c.args.budget (g.P.Pulse.asked c.args.pulse.now) _ (g.P.Pulse.stops c.args.pulse.now) (g.P.Pulse.stops c.loop-pulse.pulse) new
    (running-on c.args.self.now.clauses.now c.args.budget (g.P.Pulse.asked c.args.pulse.now) (g.P.Pulse.asked c.loop-pulse.pulse) _ (g.P.Pulse.stops c.args.pulse.now) (g.P.Pulse.stops c.loop-pulse.pulse) (g.P.Pulse.stops c.loop-pulse.pulse)
    old new c.loop-pulse.invariant.0 turn c.wanted.ensures.counted refl)
