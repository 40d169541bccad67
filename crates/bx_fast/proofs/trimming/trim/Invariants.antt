use Rattle.std.proofs.Common.{◌≡◌, ◌≤◌, length}
use Rattle.bx_fast.proofs.trimming.trim.Given as goal

abbrev pub invariant-loop-k : goal.invariant-loop-k
invariant-loop-k l = (l.kept.first ≡ l.steps.first) × (length l.kept.steps ≤ l.k)
