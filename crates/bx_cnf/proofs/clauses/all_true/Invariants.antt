use Rattle.std.proofs.Common.{take}
use Rattle.bx_cnf.specs.Formulas.{AllTrue}
use Rattle.bx_cnf.proofs.clauses.all_true.Given as goal

abbrev pub invariant-loop-k : goal.invariant-loop-k
invariant-loop-k l = AllTrue l.bits (take l.k l.clauses.clauses)
