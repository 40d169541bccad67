use Rattle.bx_grid.proofs.Orders.{earlier_is_before}
use Rattle.bx_grid.proofs.laws.orders.earlier_ratios_precede.Goals as goal

pub returns : goal.returns
returns c = earlier_is_before
