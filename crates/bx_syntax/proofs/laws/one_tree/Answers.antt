use Rattle.bx_syntax.proofs.ModuleSteps.{module_once}
use Rattle.bx_syntax.proofs.laws.one_tree.Goals as goal

pub returns : goal.returns
returns c = module_once
