use Rattle.bx_dimacs.proofs.Meaning.{text_true, formula_true}
use Rattle.bx_dimacs.proofs.laws.a_formula_means_what_its_text_says.Goals as goal

pub returns-clause-text : goal.returns-clause-text
returns-clause-text c = text_true

pub returns-clause-formula : goal.returns-clause-formula
returns-clause-formula c = formula_true
