use Rattle.bx_map.proofs.Mapping.{mapping_of-is_network}
use Rattle.bx_map.proofs.laws.a_mapped_network_is_a_network.Goals as goal

pub returns : goal.returns
returns c = mapping_of-is_network
