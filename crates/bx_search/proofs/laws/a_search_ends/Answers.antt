use Rattle.bx_search.proofs.Ends.{search-ends}
use Rattle.bx_search.proofs.laws.a_search_ends.Goals as goal

pub returns : goal.returns
returns c = search-ends
