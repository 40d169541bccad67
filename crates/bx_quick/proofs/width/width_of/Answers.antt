use Rattle.std.proofs.Common.{◌+◌, ◌≤◌, ◌∙◌, max, drop, ap, sym, arith}
use Rattle.std.proofs.Math.Nat.{max-le}
use Rattle.bx_quick.specs.LaneStates.{lanes_after, most_lanes}
use Rattle.bx_quick.proofs.Steps.{most_lanes-next, most_lanes-none, width-is, some-lane}
use Rattle.bx_quick.proofs.width.width_of.Goals as goal

pub loop-v-init : goal.loop-v-init
loop-v-init c = (width-is c.args.net.now c.input_count-lanes.result c.input_count-lanes.ensures.is, omega arith, omega arith)

pub loop-v-preserved : goal.loop-v-preserved
loop-v-preserved c =
    let nodes = c.args.net.now.nodes in
    let v = c.loop-v.v in
    let lanes = c.loop-v.lanes in
    let most = c.loop-v.most in
    let bound : max lanes most ≤ 4096 + v = max-le (omega arith) (omega arith) in (
      ap (λ s. max (most_lanes s (drop (v + 1) nodes)) c.max-most.result) c.lanes_after-lanes.ensures.is
          ∙ ap (λ m. max (most_lanes (lanes_after c.node.result.kind lanes) (drop (v + 1) nodes)) m) c.max-most.ensures
          ∙ sym (most_lanes-next lanes nodes v c.node.result most c.node.ensures) ∙ c.loop-v.invariant.0,
      omega arith,
      omega (arith, bound, c.max-most.ensures),
    )

pub returns-clause-is : goal.returns-clause-is
returns-clause-is c =
    c.max.ensures ∙ sym (most_lanes-none c.loop-v.lanes c.args.net.now.nodes c.loop-v.v c.loop-v.most (omega arith))
    ∙ c.loop-v.invariant.0

pub returns-clause-some : goal.returns-clause-some
returns-clause-some c = λ h.
    let some = some-lane c.args.net.now c.node_count-v-end.ensures.network h in
    omega (arith, some, returns-clause-is c)
