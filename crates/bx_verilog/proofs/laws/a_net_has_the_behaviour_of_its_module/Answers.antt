use Rattle.bx_verilog.proofs.ModuleBehaviours.{same-behaviour}
use Rattle.bx_verilog.proofs.laws.a_net_has_the_behaviour_of_its_module.Goals as goal

pub returns : goal.returns
returns c = same-behaviour
