use Rattle.bx_verilog.proofs.Existence.{meaning}
use Rattle.bx_verilog.proofs.laws.existence.each_module_has_a_meaning.Goals as goal

pub returns : goal.returns
returns c = meaning
