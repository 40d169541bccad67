-- What the text of a proof is for that of a formula.
use Rattle.std.specs.Prelude.{◌≡◌, Bool, List, [], length, Ok}
use Rattle.bx_cnf.specs.Formulas.{Formula, AllTrue}
use Rattle.bx_dimacs.specs.FormulaTexts.{FormulaText, formula_of}
use Rattle.bx_dimacs.specs.Keeping.{Keeps}
use Rattle.bx_dimacs.specs.ProofTexts.{ProofText, proof_of}
use Rattle.bx_dimacs.specs.Proofs.{AreStepsKept}
use Rattle.bx_proof.specs.Accepted.{IsAccepted}
use Rattle.bx_proof.specs.Steps.{StepList}
use Rattle.bx_says.specs.Texts.{Text}

-- values of the variables that a text declares make all clauses true that stand in it
pub record IsSolution (formula : Text) (values : List Bool) : Type 0 where
  pub said : FormulaText
  pub says : formula_of formula ≡ Ok said
  pub each : length values ≡ said.vars
  pub all : AllTrue values said.clauses

-- the steps that a text says, up to the first empty one, are accepted for the clauses that another says
pub record IsRefutation (formula proof : Text) : Type 0 where
  pub said : FormulaText
  pub says : formula_of formula ≡ Ok said
  pub clauses : Formula
  pub keeps : Keeps said clauses
  pub steps_said : ProofText
  pub steps_say : proof_of clauses proof ≡ Ok steps_said
  pub log : StepList
  pub steps : AreStepsKept (length clauses.clauses) [] steps_said.steps log.steps
  pub accepted : IsAccepted clauses log
