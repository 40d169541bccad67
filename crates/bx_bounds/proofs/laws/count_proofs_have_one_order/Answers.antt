use Rattle.bx_bounds.proofs.Firsts.{one-precedes, precedes-once}
use Rattle.bx_bounds.proofs.laws.count_proofs_have_one_order.Goals as goal

pub returns-clause-some : goal.returns-clause-some
returns-clause-some c = one-precedes

pub returns-clause-once : goal.returns-clause-once
returns-clause-once c = precedes-once
