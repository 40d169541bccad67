use Rattle.bx_search.proofs.Enough.{step-cheap}
use Rattle.bx_search.proofs.laws.a_step_costs_little.Goals as goal

pub returns : goal.returns
returns c = step-cheap
