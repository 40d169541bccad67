-- They aren't read.
use Rattle.bx_decode.proofs.Once.{means-alike}
use Rattle.bx_decode.proofs.laws.taken_tiles_and_used_borders_mean_nothing.Goals as goal

pub returns : goal.returns
returns c = means-alike
