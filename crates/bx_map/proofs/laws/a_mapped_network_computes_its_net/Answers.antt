use Rattle.bx_map.proofs.Behaving.{computes}
use Rattle.bx_map.proofs.laws.a_mapped_network_computes_its_net.Goals as goal

pub returns : goal.returns
returns c = computes
