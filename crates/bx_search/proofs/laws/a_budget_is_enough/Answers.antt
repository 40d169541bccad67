use Rattle.bx_search.proofs.Enough.{decided-within}
use Rattle.bx_search.proofs.laws.a_budget_is_enough.Goals as goal

pub returns : goal.returns
returns c = decided-within
