use Rattle.bx_search.proofs.Enough.{learned-new}
use Rattle.bx_search.proofs.laws.a_learned_clause_is_new.Goals as goal

pub returns : goal.returns
returns c = learned-new
