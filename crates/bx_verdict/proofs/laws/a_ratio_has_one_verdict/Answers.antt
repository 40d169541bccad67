use Rattle.bx_verdict.proofs.OneVerdict.{one-verdict}
use Rattle.bx_verdict.proofs.laws.a_ratio_has_one_verdict.Goals as goal

pub returns : goal.returns
returns c = one-verdict
