use Rattle.bx_watch.proofs.Firsts.{least-is_active}
use Rattle.bx_watch.proofs.laws.the_least_is_active.Goals as goal

pub returns : goal.returns
returns c = least-is_active
