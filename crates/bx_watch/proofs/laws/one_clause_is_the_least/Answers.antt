use Rattle.bx_watch.proofs.Firsts.{one_least}
use Rattle.bx_watch.proofs.laws.one_clause_is_the_least.Goals as goal

pub returns : goal.returns
returns c w one other formed = one_least w one other
