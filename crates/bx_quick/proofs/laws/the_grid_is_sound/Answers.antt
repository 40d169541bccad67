use Rattle.bx_quick.proofs.NetworkRuns.{network-sound}
use Rattle.bx_quick.proofs.laws.the_grid_is_sound.Goals as goal

pub returns : goal.returns
returns c = network-sound
