use Rattle.bx_engine.proofs.Worth.{module-computed}
use Rattle.bx_engine.proofs.laws.worth.a_network_computes_its_module.Goals as goal

pub returns : goal.returns
returns c = module-computed
