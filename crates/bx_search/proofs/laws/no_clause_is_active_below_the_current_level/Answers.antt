use Rattle.bx_search.proofs.QuietBelow.{quiet_below-after}
use Rattle.bx_search.proofs.laws.no_clause_is_active_below_the_current_level.Goals as goal

pub returns : goal.returns
returns c = λ formula budget events level s after. quiet_below-after formula budget events s after level
