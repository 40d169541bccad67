use Rattle.bx_search.proofs.OneEnd.{one-end}
use Rattle.bx_search.proofs.laws.the_search_has_one_end.Goals as goal

pub returns : goal.returns
returns c = one-end
