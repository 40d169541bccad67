use Rattle.std.proofs.Common.{vec_len}
use Rattle.bx_check.proofs.Taking.{AreLeft}
use Rattle.bx_check.proofs.assignment.Assignment.clear.Given as goal

abbrev pub invariant-loop-lit : goal.invariant-loop-lit
invariant-loop-lit l = AreLeft l.self-inside.values l.self-inside.taken.items

abbrev pub decreases-loop-lit : goal.decreases-loop-lit
decreases-loop-lit l = vec_len l.self-inside.taken
