use Rattle.bx_network.proofs.Downs.{down_is_one, up_is_one}
use Rattle.bx_network.proofs.laws.longest_paths_have_one_length.Goals as goal

pub returns-clause-down : goal.returns-clause-down
returns-clause-down c = down_is_one

pub returns-clause-up : goal.returns-clause-up
returns-clause-up c = up_is_one
