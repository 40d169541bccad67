use Rattle.bx_dots.proofs.Cutting.{one_gift}
use Rattle.bx_dots.proofs.laws.a_set_of_dots_has_one_cut.Goals as goal

pub returns : goal.returns
returns c = one_gift
