-- How a run ends, over what its words ask for and what its desk had before.
use Rattle.std.specs.Prelude.{◌≡◌, ℕ, ◌≤◌, codes, Option, Some, None}
use Rattle.bx_desk.specs.Desk.{DeskState, Starts, Writes}
use Rattle.bx_cnf.specs.Formulas.{Formula}
use Rattle.bx_dimacs.specs.declared.formula.DimacsFormula.{DimacsFormula}
use Rattle.bx_dimacs.specs.declared.proof.LratProof.{LratProof}
use Rattle.bx_proof.specs.Texts.{log_text}
use Rattle.bx_says.specs.Texts.{Text}
use Rattle.bx_sat.specs.declared.status.SatStatus.{SatStatus}
use Rattle.bx_sat.specs.declared.status.SatStatus.TheVariants.{BadLine, Words, Failed, NoMemory}
use Rattle.bx_sat.specs.declared.checking.Finding.{Finding}
use Rattle.bx_sat.specs.declared.solving.Answer.{Answer}
use Rattle.bx_sat.specs.declared.solving.Answer.TheVariants.{Unsatisfiable}
use Rattle.bx_sat.specs.Answers.{finding_status, finding_text, answer_status, answer_text}
use Rattle.bx_sat.specs.Files.{IsFormulaIn, IsProofIn, IsBadLineIn, FailsToRead, FailsToWrite}
use Rattle.bx_sat.specs.Solving.{IsAnswerTo, IsRight}
use Rattle.bx_sat.specs.Sayings.{EndsSaying, bad_line_text}
use Rattle.bx_sat.specs.Checking.{IsFinding}
use Rattle.bx_sat.specs.Words.{Request, check, solve, solve_fast}

abbrev pub usage_text : Text
usage_text = codes "the words are check FORMULA PROOF [--workers N], solve FORMULA BUDGET [PROOF] or solve FORMULA --fast CONFLICTS [PROOF]\n"

-- there is no answer: the text of the file of this name is stuck at a line, which is said; or the file can't be read, or
-- memory was refused, and nothing is written or said
pub data Unanswered (of : Option Formula) (name : Text) (old new : DeskState) (result : SatStatus) : Type 0 where
  unread : (line : ℕ) → IsBadLineIn of old name line
      → EndsSaying old new BadLine (bad_line_text name line) result → Unanswered of name old new result
  broken : FailsToRead old new name → result ≡ Failed → Unanswered of name old new result
  refused : new ≡ old → result ≡ NoMemory → Unanswered of name old new result

-- the proof of an answer is in the file that is to have it, and else nothing was written
abbrev pub KeepsProof : DeskState → DeskState → Answer → Option Text → Type 0
KeepsProof old new (Unsatisfiable log) (Some name) = (mid : DeskState) × Starts old mid name × Writes mid new (log_text log)
KeepsProof old new answer name = new ≡ old

-- there is one, and it couldn't be written
abbrev pub FailsToKeep : DeskState → DeskState → Answer → Option Text → Type 0
FailsToKeep old new (Unsatisfiable log) (Some name) = FailsToWrite old new name (log_text log)
FailsToKeep old new answer name = ⊥

-- it says what is found of the proof in a file for the formula in another
pub data EndsCheck (formula proof : Text) (old new : DeskState) (result : SatStatus) : Type 0 where
  checked : (read : DimacsFormula) (steps : LratProof) (finding : Finding)
      → IsFormulaIn old formula read → IsProofIn read.clauses old proof steps → IsFinding read.clauses steps finding
      → EndsSaying old new (finding_status finding) (finding_text finding) result → EndsCheck formula proof old new result
  no_formula : Unanswered None formula old new result → EndsCheck formula proof old new result
  no_proof : (read : DimacsFormula) → IsFormulaIn old formula read
      → Unanswered (Some read.clauses) proof old new result → EndsCheck formula proof old new result

-- it says what the search of the formula in a file ends with, within what is used of this budget, and before that keeps
-- the proof; of a solution it says the values of the variables that the file declares, which the formula has; where the
-- proof can't be kept, it says nothing
pub data EndsSolve (name : Text) (budget : ℕ) (proof : Option Text) (old new : DeskState) (result : SatStatus) : Type 0 where
  solved : (mid : DeskState) (read : DimacsFormula) (answer : Answer)
      → IsFormulaIn old name read → read.vars ≤ read.clauses.vars → IsAnswerTo read.clauses budget answer
      → KeepsProof old mid answer proof
      → EndsSaying mid new (answer_status answer) (answer_text read.vars answer) result → EndsSolve name budget proof old new result
  unkept : (read : DimacsFormula) (answer : Answer) → IsFormulaIn old name read → IsAnswerTo read.clauses budget answer
      → FailsToKeep old new answer proof → result ≡ Failed → EndsSolve name budget proof old new result
  no_formula : Unanswered None name old new result → EndsSolve name budget proof old new result

-- it says an answer for the formula in a file that is right, whoever found it, and before that keeps the proof: values
-- make all its clauses true, there are none only where a log is accepted, and of one that isn't known nothing is said
-- but that; of a solution it says the values of the variables that the file declares, which the formula has; where the
-- proof can't be kept, it says nothing
pub data EndsFast (name : Text) (proof : Option Text) (old new : DeskState) (result : SatStatus) : Type 0 where
  solved : (mid : DeskState) (read : DimacsFormula) (answer : Answer)
      → IsFormulaIn old name read → read.vars ≤ read.clauses.vars → IsRight read.clauses answer
      → KeepsProof old mid answer proof
      → EndsSaying mid new (answer_status answer) (answer_text read.vars answer) result → EndsFast name proof old new result
  unkept : (read : DimacsFormula) (answer : Answer) → IsFormulaIn old name read → IsRight read.clauses answer
      → FailsToKeep old new answer proof → result ≡ Failed → EndsFast name proof old new result
  no_formula : Unanswered None name old new result → EndsFast name proof old new result

-- What is asked for is done, or said to be wrong; and where nothing is asked for, the usage is said. How many workers
-- check a proof makes no difference.
abbrev pub EndsRun : Option Request → DeskState → DeskState → SatStatus → Type 0
EndsRun (Some (check formula proof workers)) old new result = EndsCheck formula proof old new result
EndsRun (Some (solve formula budget proof)) old new result = EndsSolve formula budget proof old new result
EndsRun (Some (solve_fast formula conflicts proof)) old new result = EndsFast formula proof old new result
EndsRun None old new result = EndsSaying old new Words usage_text result
