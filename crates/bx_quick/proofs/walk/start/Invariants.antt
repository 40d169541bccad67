use Rattle.std.proofs.Common.{◌≡◌, ◌≤◌, ◌++◌, length, drop}
use Rattle.bx_quick.specs.LaneStates.{input_edges}
use Rattle.bx_quick.proofs.walk.start.Given as goal

abbrev pub invariant-loop-v : goal.invariant-loop-v
invariant-loop-v l =
    (l.lanes.items ++ input_edges l.net.edges l.v (drop l.v l.net.nodes) ≡ input_edges l.net.edges 0 l.net.nodes)
    × (length l.lanes.items ≤ l.v)
