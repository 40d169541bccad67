use Rattle.bx_network.proofs.NearMisses.{branching_is_network, down_of_and, up_of_fan, branching_valued, branching_window}
use Rattle.bx_network.proofs.laws.two_ways_lead_through_the_branching_network.Goals as goal

pub returns-clause-network : goal.returns-clause-network
returns-clause-network c = branching_is_network

pub returns-clause-down : goal.returns-clause-down
returns-clause-down c = down_of_and

pub returns-clause-up : goal.returns-clause-up
returns-clause-up c = up_of_fan

pub returns-clause-values : goal.returns-clause-values
returns-clause-values c = branching_valued

pub returns-clause-window : goal.returns-clause-window
returns-clause-window c = branching_window
