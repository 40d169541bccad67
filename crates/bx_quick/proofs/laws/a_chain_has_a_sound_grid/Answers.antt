use Rattle.bx_quick.proofs.ChainSound.{grid-sound}
use Rattle.bx_quick.proofs.laws.a_chain_has_a_sound_grid.Goals as goal

pub returns : goal.returns
returns c = λ w s t ops some chain. grid-sound w s ops t some chain
