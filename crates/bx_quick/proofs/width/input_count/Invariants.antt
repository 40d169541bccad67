use Rattle.std.proofs.Common.{◌≡◌, ◌≤◌, ◌+◌, length, drop}
use Rattle.bx_quick.specs.LaneStates.{input_edges}
use Rattle.bx_quick.proofs.width.input_count.Given as goal

abbrev pub invariant-loop-v : goal.invariant-loop-v
invariant-loop-v l =
    (l.count + length (input_edges l.net.edges l.v (drop l.v l.net.nodes)) ≡ length (input_edges l.net.edges 0 l.net.nodes))
    × (l.count ≤ l.v)
