use Rattle.bx_network.proofs.Longest.{at}
use Rattle.bx_network.proofs.Downs.{all_downs, all_ups, downs-are, ups-are}
use Rattle.bx_network.proofs.laws.every_node_lies_between.Goals as goal

pub returns-clause-down : goal.returns-clause-down
returns-clause-down c = λ N v net low. (at (all_downs N) v, downs-are N net v low)

pub returns-clause-up : goal.returns-clause-up
returns-clause-up c = λ N v net low. (at (all_ups N) v, ups-are N net v low)
