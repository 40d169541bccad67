use Rattle.bx_map.proofs.Reaching.{stays-if_reaches}
use Rattle.bx_map.proofs.laws.what_reaches_an_output_stays.Goals as goal

pub returns : goal.returns
returns c = stays-if_reaches
