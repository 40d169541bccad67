use Rattle.bx_verilog.proofs.Cyclic.{acyclic-net}
use Rattle.bx_verilog.proofs.ElaboratedNets.{is_net}
use Rattle.bx_verilog.proofs.laws.an_accepted_module_makes_a_net.Goals as goal

pub returns : goal.returns
returns c = λ m tree accepted. is_net m tree accepted.0 (acyclic-net m accepted.1)
