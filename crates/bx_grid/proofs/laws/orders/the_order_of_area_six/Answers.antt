-- By computing the order.
use Rattle.std.proofs.Common.{refl}
use Rattle.bx_grid.specs.Orders.{order}
use Rattle.bx_grid.proofs.laws.orders.the_order_of_area_six.Goals as goal

pub returns : goal.returns
unfolding order
returns c = refl
