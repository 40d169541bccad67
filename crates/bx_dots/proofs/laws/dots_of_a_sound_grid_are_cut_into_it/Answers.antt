use Rattle.bx_dots.proofs.Cutting.{cut_of_dots}
use Rattle.bx_dots.proofs.laws.dots_of_a_sound_grid_are_cut_into_it.Goals as goal

pub returns : goal.returns
returns c = cut_of_dots
