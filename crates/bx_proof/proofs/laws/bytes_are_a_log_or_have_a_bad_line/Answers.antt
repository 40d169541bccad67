use Rattle.bx_proof.proofs.Deciding.{some_log}
use Rattle.bx_proof.proofs.laws.bytes_are_a_log_or_have_a_bad_line.Goals as goal

pub returns : goal.returns
returns c = some_log
