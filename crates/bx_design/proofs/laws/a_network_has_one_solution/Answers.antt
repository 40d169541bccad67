use Rattle.bx_design.proofs.OneSolution.{one-solution}
use Rattle.bx_design.proofs.laws.a_network_has_one_solution.Goals as goal

pub returns : goal.returns
returns c = one-solution
