use Rattle.bx_grid.proofs.Neighbours.{border-side, border-some, border-inside}
use Rattle.bx_grid.proofs.laws.tiles.each_side_has_its_border.Goals as goal

pub returns-clause-one : goal.returns-clause-one
returns-clause-one c = border-side

pub returns-clause-some : goal.returns-clause-some
returns-clause-some c = border-some

pub returns-clause-inside : goal.returns-clause-inside
returns-clause-inside c = border-inside
