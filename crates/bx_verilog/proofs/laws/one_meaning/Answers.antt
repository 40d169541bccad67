use Rattle.bx_verilog.proofs.OneMeaning.{one-meaning}
use Rattle.bx_verilog.proofs.laws.one_meaning.Goals as goal

pub returns : goal.returns
returns c m r s x y = one-meaning m r s x y
