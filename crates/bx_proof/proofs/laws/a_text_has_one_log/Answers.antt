use Rattle.bx_proof.proofs.OneLog.{one_log}
use Rattle.bx_proof.proofs.laws.a_text_has_one_log.Goals as goal

pub returns : goal.returns
returns c = one_log
