use Rattle.std.proofs.Common.{◌≤◌, take}
use Rattle.bx_check.specs.Valued.{literal_count}
use Rattle.bx_check.proofs.values.literals_of_clauses.Given as goal

abbrev pub invariant-loop-k : goal.invariant-loop-k
invariant-loop-k l = l.count ≤ literal_count (take l.k l.clauses.clauses)
