use Rattle.bx_dimacs.proofs.Meaning.{text_true}
use Rattle.bx_sat.proofs.laws.a_solution_makes_the_text_true.Goals as goal

pub returns : goal.returns
returns c = text_true
