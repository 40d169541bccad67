use Rattle.bx_verilog.proofs.Meanings.{net-gives, net-gives-driven, net-gives-outputs}
use Rattle.bx_verilog.proofs.laws.a_net_computes_its_module.Goals as goal

pub returns-clause-names : goal.returns-clause-names
returns-clause-names c = net-gives-driven

pub returns-clause-values : goal.returns-clause-values
returns-clause-values c = net-gives

pub returns-clause-outputs : goal.returns-clause-outputs
returns-clause-outputs c = net-gives-outputs
