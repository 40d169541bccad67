-- By computing the orders.
use Rattle.std.proofs.Common.{refl}
use Rattle.bx_grid.specs.Orders.{order}
use Rattle.bx_grid.proofs.laws.orders.how_many_ratios_there_are.Goals as goal

pub returns-clause-hundred : goal.returns-clause-hundred
unfolding order
returns-clause-hundred c = refl

pub returns-clause-all : goal.returns-clause-all
unfolding order
returns-clause-all c = refl
