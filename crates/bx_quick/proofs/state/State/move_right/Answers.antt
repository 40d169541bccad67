use Rattle.std.proofs.Common.{◌∙◌, ◌+◌, ◌-◌, ap, sym}
use Rattle.bx_quick.specs.LaneStates.{move_right}
use Rattle.bx_quick.proofs.Steps.{move_right-next}
use Rattle.bx_quick.proofs.state.State.move_right.Goals as goal

pub loop-lane-preserved : goal.loop-lane-preserved
loop-lane-preserved c = (
  ap (λ s. move_right s (c.loop-lane.lane + 1) (c.args.to - (c.loop-lane.lane + 1))) c.in_ok-exchange.ensures.exchanged
      ∙ sym (move_right-next c.loop-lane.self c.loop-lane.lane c.args.to c.loop-lane-test.true)
      ∙ c.loop-lane.invariant.0,
  c.in_ok-exchange.ensures.count ∙ c.loop-lane.invariant.1,
)
