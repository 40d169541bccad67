use Rattle.std.proofs.Common.{◌≡◌, ◌-◌, length}
use Rattle.bx_quick.specs.LaneStates.{move_right}
use Rattle.bx_quick.proofs.state.State.move_right.Given as goal

abbrev pub invariant-loop-lane : goal.invariant-loop-lane
invariant-loop-lane l =
    (move_right l.self l.lane (l.to - l.lane) ≡ move_right l.fn.self l.x (l.to - l.x))
    × (length l.self.lanes ≡ length l.fn.self.lanes)
