use Rattle.bx_search.proofs.Rising.{one_of_the_current_level}
use Rattle.bx_search.proofs.laws.one_of_the_current_level_is_kept.Goals as goal

pub returns : goal.returns
returns c = one_of_the_current_level
