use Rattle.bx_verilog.proofs.Existence.{any-inputs}
use Rattle.bx_verilog.proofs.laws.existence.inputs_may_have_any_values.Goals as goal

pub returns : goal.returns
returns c = any-inputs
