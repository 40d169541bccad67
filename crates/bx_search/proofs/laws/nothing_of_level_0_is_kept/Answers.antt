use Rattle.bx_search.proofs.Kept.{nothing_of_level_0}
use Rattle.bx_search.proofs.laws.nothing_of_level_0_is_kept.Goals as goal

pub returns : goal.returns
returns c = nothing_of_level_0
