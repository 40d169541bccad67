use Rattle.bx_logic.proofs.Behaviours.{net-function}
use Rattle.bx_logic.proofs.laws.a_net_gives_one_list_of_outputs.Goals as goal

pub returns : goal.returns
returns c = net-function
