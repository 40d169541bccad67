use Rattle.bx_search.proofs.Accepting.{log-accepted}
use Rattle.bx_search.proofs.laws.a_log_is_accepted.Goals as goal

pub returns : goal.returns
returns c = log-accepted
