use Rattle.bx_network.proofs.Networks.{has-slot, has-operand}
use Rattle.bx_tests_network.proofs.network.is_found.Goals as goal

pub edge_out-requires : goal.edge_out-requires
edge_out-requires g c = has-slot _ c.edge_count.ensures.network _ _ c.edge-edge.ensures

pub edge_in-requires : goal.edge_in-requires
edge_in-requires g c = has-operand _ c.edge_count.ensures.network _ _ c.edge-edge.ensures
