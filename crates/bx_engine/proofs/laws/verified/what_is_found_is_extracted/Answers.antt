use Rattle.bx_engine.proofs.Verified.{grid-told}
use Rattle.bx_engine.proofs.laws.verified.what_is_found_is_extracted.Goals as goal

pub returns : goal.returns
returns c = λ task m lib ratio design cert said found inputs read book drawn. grid-told task m lib ratio design cert said found read.taken.taken_library.is inputs read book drawn
