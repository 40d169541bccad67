use Rattle.std.proofs.Common.{◌≡◌, ◌≤◌, ◌+◌, max, drop}
use Rattle.bx_quick.specs.LaneStates.{most_lanes, width_of}
use Rattle.bx_quick.proofs.width.width_of.Given as goal

abbrev pub invariant-loop-v : goal.invariant-loop-v
invariant-loop-v l =
    (max (most_lanes l.lanes (drop l.v l.net.nodes)) l.most ≡ width_of l.net)
    × (l.lanes ≤ 4096 + l.v) × (l.most ≤ 4096 + l.v)
