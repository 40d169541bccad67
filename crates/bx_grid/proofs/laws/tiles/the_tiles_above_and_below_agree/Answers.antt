use Rattle.bx_grid.proofs.Neighbours.{below-above, above-below}
use Rattle.bx_grid.proofs.laws.tiles.the_tiles_above_and_below_agree.Goals as goal

pub returns-clause-below : goal.returns-clause-below
returns-clause-below c = below-above

pub returns-clause-above : goal.returns-clause-above
returns-clause-above c = above-below
