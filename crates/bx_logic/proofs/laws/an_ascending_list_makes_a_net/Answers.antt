use Rattle.bx_logic.proofs.Ascending.{ascending-is_net}
use Rattle.bx_logic.proofs.laws.an_ascending_list_makes_a_net.Goals as goal

pub returns : goal.returns
returns c = ascending-is_net
