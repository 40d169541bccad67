use Rattle.bx_verdict.proofs.OneVerdict.{one-count}
use Rattle.bx_verdict.proofs.laws.a_verdict_asks_so_often.Goals as goal

pub returns : goal.returns
returns c = one-count
