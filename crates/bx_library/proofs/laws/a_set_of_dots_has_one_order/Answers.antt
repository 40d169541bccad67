use Rattle.bx_library.proofs.DotSets.{one_ascending}
use Rattle.bx_library.proofs.laws.a_set_of_dots_has_one_order.Goals as goal

pub returns : goal.returns
returns c = one_ascending
