use Rattle.bx_network.proofs.Valuations.{network-function}
use Rattle.bx_network.proofs.laws.a_network_gives_one_value_of_each_output.Goals as goal

pub returns : goal.returns
returns c = network-function
