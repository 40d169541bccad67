use Rattle.std.proofs.Common.{arith, sym, subst}
use Rattle.bx_fast.specs.Fast.{IsCertified}
use Rattle.bx_sat.specs.Solving.{IsRight}
use Rattle.bx_sat.proofs.solving.decide_fast_steadily.Goals as goal

pub returns-in-Sat-clause-found : goal.returns-in-Sat-clause-found
returns-in-Sat-clause-found g c = subst (IsCertified c.args.clauses.now) c.in-Sat.is c.in_ok-bits.ensures.certified

pub returns-in-Unsat-clause-found : goal.returns-in-Unsat-clause-found
returns-in-Unsat-clause-found g c = subst (IsRight c.args.clauses.now) (sym c.refuted.ensures.answer) ((subst (IsCertified c.args.clauses.now) c.in-Unsat.is c.in_ok-bits.ensures.certified).0, c.refuted.ensures.formed)

pub returns-in-Unsat-clause-refuted : goal.returns-in-Unsat-clause-refuted
returns-in-Unsat-clause-refuted g c log _ bits all = (subst (IsCertified c.args.clauses.now) c.in-Unsat.is c.in_ok-bits.ensures.certified).1 bits all

pub unreachable-requires : goal.unreachable-requires
unreachable-requires g c = omega (arith, c.in_ok-bits.ensures.stopped c.in-Stopped.is)
