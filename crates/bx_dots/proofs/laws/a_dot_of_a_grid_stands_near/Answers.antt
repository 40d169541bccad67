use Rattle.bx_dots.proofs.Near.{near_of}
use Rattle.bx_dots.proofs.laws.a_dot_of_a_grid_stands_near.Goals as goal

pub returns : goal.returns
returns c = near_of
