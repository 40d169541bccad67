use Rattle.bx_syntax.proofs.Sizes.{module_fits}
use Rattle.bx_syntax.proofs.laws.a_module_is_no_larger_than_its_text.Goals as goal

pub returns : goal.returns
returns c = module_fits
