-- The clauses that are left.
use Rattle.std.proofs.Common.{drop}
use Rattle.bx_encode.specs.Families.{pairs}
use Rattle.bx_encode.proofs.Adding.{Leaves}
use Rattle.bx_encode.proofs.push.push_pairs.Given as goal

abbrev pub invariant-loop-k : goal.invariant-loop-k
invariant-loop-k l = Leaves l.initial.clauses l.clauses (pairs l.literals) (pairs (drop l.k l.literals))
