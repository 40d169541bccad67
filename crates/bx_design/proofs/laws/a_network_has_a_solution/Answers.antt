use Rattle.bx_design.proofs.Existence.{some-solution}
use Rattle.bx_design.proofs.laws.a_network_has_a_solution.Goals as goal

pub returns : goal.returns
returns c = some-solution
