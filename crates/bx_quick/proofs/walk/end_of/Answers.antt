use Rattle.std.proofs.Common.{◌∙◌, ◌+◌, drop, ap, sym, arith}
use Rattle.bx_quick.specs.LaneStates.{after_nodes}
use Rattle.bx_quick.proofs.Steps.{after_nodes-next, after_nodes-none, end_of-is}
use Rattle.bx_quick.proofs.walk.end_of.Goals as goal

pub loop-v-init : goal.loop-v-init
loop-v-init c = (end_of-is c.args.net.now _ c.in_ok-state.ensures.is, omega (arith, c.in_ok-state.ensures.few))

pub loop-v-preserved : goal.loop-v-preserved
loop-v-preserved c = (
  ap (λ s. after_nodes c.args.net.now.edges (c.loop-v.v + 1) (drop (c.loop-v.v + 1) c.args.net.now.nodes) s) c.in_ok-after_node.ensures.done
      ∙ sym (after_nodes-next c.args.net.now.edges c.args.net.now.nodes c.loop-v.v c.node-kind.result c.loop-v.state c.node-kind.ensures)
      ∙ c.loop-v.invariant.0,
  omega (arith, c.in_ok-after_node.ensures.few, c.loop-v.invariant.1),
)

pub returns-clause-is : goal.returns-clause-is
returns-clause-is c =
    sym (after_nodes-none c.args.net.now.edges c.args.net.now.nodes c.loop-v.v c.loop-v.state (omega arith)) ∙ c.loop-v.invariant.0
