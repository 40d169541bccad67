use Rattle.bx_dots.proofs.Geometry.{one_tile}
use Rattle.bx_dots.proofs.laws.a_dot_lies_in_one_tile.Goals as goal

pub returns : goal.returns
returns c = one_tile
