use Rattle.std.proofs.Common.{arith}
use Rattle.bx_quick.proofs.Steps.{lane_of-is}
use Rattle.bx_quick.proofs.state.lane_in.Goals as goal

pub returns-then-other-e-clause-is : goal.returns-then-other-e-clause-is
returns-then-other-e-clause-is c =
    lane_of-is c.args.lanes.now c.args.e c.loop-lane.lane (omega arith) c.loop-lane.invariant
    (λ lt. c.if-other-e.true)

pub returns-clause-is : goal.returns-clause-is
returns-clause-is c =
    lane_of-is c.args.lanes.now c.args.e _ (omega arith) (λ k lt. c.loop-lane.invariant k (omega arith)) (λ lt. absurd (omega (arith, lt)))
