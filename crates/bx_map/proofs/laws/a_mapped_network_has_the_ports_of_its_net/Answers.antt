use Rattle.bx_map.proofs.Ported.{input-ports, output-ports}
use Rattle.bx_map.proofs.laws.a_mapped_network_has_the_ports_of_its_net.Goals as goal

pub returns-clause-inputs : goal.returns-clause-inputs
returns-clause-inputs c = λ net v port h none has. input-ports net h none v port has

pub returns-clause-outputs : goal.returns-clause-outputs
returns-clause-outputs c = output-ports
