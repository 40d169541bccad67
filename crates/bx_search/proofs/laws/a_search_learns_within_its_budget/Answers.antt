use Rattle.bx_search.proofs.Counting.{count-within}
use Rattle.bx_search.proofs.laws.a_search_learns_within_its_budget.Goals as goal

pub returns : goal.returns
returns c = count-within
