use Rattle.bx_says.proofs.Standing.{unused-tile}
use Rattle.bx_says.proofs.laws.an_input_is_unused_or_has_a_tile.Goals as goal

pub returns : goal.returns
returns c = unused-tile
