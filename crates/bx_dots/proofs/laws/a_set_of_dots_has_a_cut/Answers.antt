use Rattle.bx_dots.proofs.Decided.{some-cut}
use Rattle.bx_dots.proofs.laws.a_set_of_dots_has_a_cut.Goals as goal

pub returns : goal.returns
returns c = some-cut
