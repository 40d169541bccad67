use Rattle.std.proofs.Common.{arith, sym, subst}
use Rattle.bx_sat.specs.Solving.{IsRight}
use Rattle.bx_check.proofs.Sound.{accepted_sound}
use Rattle.bx_sat.proofs.solving.decide_steadily.Goals as goal

pub returns-in-Sat-clause-found : goal.returns-in-Sat-clause-found
returns-in-Sat-clause-found g c = c.in_ok-bits.ensures.solved c.in-Sat.bits c.in-Sat.is

pub returns-in-Unsat-clause-found : goal.returns-in-Unsat-clause-found
returns-in-Unsat-clause-found g c = subst (IsRight c.args.clauses.now) (sym c.refuted.ensures.answer) (c.in_ok-bits.ensures.accepted c.in-Unsat.steps c.in-Unsat.is, c.refuted.ensures.formed)

pub returns-in-Unsat-clause-refuted : goal.returns-in-Unsat-clause-refuted
returns-in-Unsat-clause-refuted g c log _ bits all = accepted_sound c.args.clauses.now c.in-Unsat.steps bits (c.in_ok-bits.ensures.accepted c.in-Unsat.steps c.in-Unsat.is) all

pub unreachable-requires : goal.unreachable-requires
unreachable-requires g c = omega (arith, c.in_ok-bits.ensures.stopped c.in-Stopped.is)
