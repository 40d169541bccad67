use Rattle.bx_bounds.proofs.Between.{borders-between}
use Rattle.bx_bounds.proofs.laws.borders_lie_between_two_rows.Goals as goal

pub returns : goal.returns
returns c = λ ratio row grid high. borders-between ratio row grid.wide high
