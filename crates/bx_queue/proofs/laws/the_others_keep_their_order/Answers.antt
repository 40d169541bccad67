use Rattle.bx_queue.proofs.Orders.{filter-moved}
use Rattle.bx_queue.proofs.laws.the_others_keep_their_order.Goals as goal

pub returns : goal.returns
returns c = filter-moved
