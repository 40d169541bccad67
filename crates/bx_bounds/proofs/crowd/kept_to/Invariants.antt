use Rattle.std.proofs.Common.{◌≤◌}
use Rattle.bx_bounds.specs.Numbers.{IsCount, IsBelow}
use Rattle.bx_bounds.specs.Refutes.{IsKeptTo}
use Rattle.bx_bounds.proofs.crowd.kept_to.Given as goal

abbrev pub invariant-loop-v : goal.invariant-loop-v
invariant-loop-v l = IsCount (IsBelow l.v (IsKeptTo l.net l.height l.first l.last)) l.count × (l.count ≤ l.v)
