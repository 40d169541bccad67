use Rattle.bx_syntax.proofs.Faults.{one_place}
use Rattle.bx_syntax.proofs.laws.terminals_stop_at_one_place.Goals as goal

pub returns : goal.returns
returns c = one_place
