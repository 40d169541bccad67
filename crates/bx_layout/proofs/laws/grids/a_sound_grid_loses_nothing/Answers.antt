use Rattle.bx_layout.proofs.Flow.{nothing-lost}
use Rattle.bx_layout.proofs.laws.grids.a_sound_grid_loses_nothing.Goals as goal

pub returns : goal.returns
returns c = nothing-lost
