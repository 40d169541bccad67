use Rattle.std.proofs.Common.{◌≤◌}
use Rattle.bx_bounds.specs.Numbers.{IsCount, IsBelow}
use Rattle.bx_bounds.specs.Refutes.{IsCutAt}
use Rattle.bx_bounds.proofs.cut.cut_at.Given as goal

abbrev pub invariant-loop-e : goal.invariant-loop-e
invariant-loop-e l = IsCount (IsBelow l.e (IsCutAt l.net l.height l.row)) l.count × (l.count ≤ l.e)
