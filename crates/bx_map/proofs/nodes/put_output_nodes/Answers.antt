use Rattle.bx_map.proofs.Making.{output_nodes-more}
use Rattle.bx_map.proofs.nodes.put_output_nodes.Goals as goal

pub loop-port-preserved : goal.loop-port-preserved
loop-port-preserved c = output_nodes-more _ c.loop-port.nodes.items _ _ c.loop-port.port c.loop-port-test.true c.loop-port.invariant c.in_ok-push.ensures.items
