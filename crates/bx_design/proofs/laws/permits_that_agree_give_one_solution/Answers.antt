use Rattle.bx_design.proofs.Agreeing.{solution-same}
use Rattle.bx_design.proofs.laws.permits_that_agree_give_one_solution.Goals as goal

pub returns : goal.returns
returns c = λ N permit other limits budget cert found agree. solution-same N permit other agree limits budget cert found
