use Rattle.bx_grid.proofs.Orders.{order_is_exact, order_is_ascending}
use Rattle.bx_grid.proofs.laws.orders.the_order_is_exact.Goals as goal

pub returns-clause-within : goal.returns-clause-within
returns-clause-within c = order_is_exact

pub returns-clause-ascending : goal.returns-clause-ascending
returns-clause-ascending c = order_is_ascending
