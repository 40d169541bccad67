use Rattle.bx_design.proofs.Minimal.{minimal}
use Rattle.bx_design.proofs.laws.a_solution_is_minimal.Goals as goal

pub returns : goal.returns
returns c = λ N permit limits budget cert found network few are. minimal N permit limits budget network few are cert found
