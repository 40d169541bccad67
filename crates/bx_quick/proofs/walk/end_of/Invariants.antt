use Rattle.std.proofs.Common.{◌≡◌, ◌≤◌, ◌+◌, ◌*◌, length, drop}
use Rattle.bx_quick.specs.LaneStates.{after_nodes, end_of}
use Rattle.bx_quick.proofs.walk.end_of.Given as goal

abbrev pub invariant-loop-v : goal.invariant-loop-v
invariant-loop-v l =
    (after_nodes l.net.edges l.v (drop l.v l.net.nodes) l.state ≡ end_of l.net)
    × (length l.state.lanes ≤ 4096 + 2 * l.v)
