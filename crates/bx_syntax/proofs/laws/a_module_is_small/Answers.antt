use Rattle.std.proofs.Common.{arith}
use Rattle.bx_syntax.proofs.Sizes.{module_fits}
use Rattle.bx_syntax.proofs.laws.a_module_is_small.Goals as goal

pub returns : goal.returns
returns c m h = omega (arith, module_fits 256 m h.terminals h.is_module, h.few)
