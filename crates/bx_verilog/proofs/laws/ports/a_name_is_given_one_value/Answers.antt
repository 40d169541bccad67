use Rattle.bx_verilog.proofs.ModuleBehaviours.{one-given}
use Rattle.bx_verilog.proofs.laws.ports.a_name_is_given_one_value.Goals as goal

pub returns : goal.returns
returns c = one-given
