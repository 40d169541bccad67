use Rattle.bx_design.proofs.Certified.{certified}
use Rattle.bx_design.proofs.laws.a_solution_has_a_certificate.Goals as goal

pub returns : goal.returns
returns c = λ N permit limits budget cert found network few are much. certified N permit limits budget network few are much cert found
