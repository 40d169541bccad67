use Rattle.bx_quick.proofs.NetworkComputes.{network-computed}
use Rattle.bx_quick.proofs.laws.the_grid_computes_the_network.Goals as goal

pub returns : goal.returns
returns c = network-computed
