use Rattle.bx_search.proofs.Enough.{search-few}
use Rattle.bx_search.proofs.laws.a_search_learns_few_clauses.Goals as goal

pub returns : goal.returns
returns c = search-few
