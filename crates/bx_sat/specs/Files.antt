-- What a file that isn't read, or isn't written whole, leaves of a desk.
use Rattle.std.specs.Prelude.{◌≡◌, ℕ, ◌+◌, length, Option, Some, None, Err}
use Rattle.bx_cnf.specs.Formulas.{Formula}
use Rattle.bx_desk.specs.Desk.{DeskState, IsFile, BeginsFile, FailsToLoad, Starts, FailsToStart, WritesFront}
use Rattle.bx_dimacs.specs.declared.formula.DimacsFormula.{DimacsFormula}
use Rattle.bx_dimacs.specs.declared.proof.LratProof.{LratProof}
use Rattle.bx_dimacs.specs.FormulaTexts.{formula_of}
use Rattle.bx_dimacs.specs.Keeping.{IsFormulaOf}
use Rattle.bx_dimacs.specs.ProofTexts.{proof_of}
use Rattle.bx_dimacs.specs.Proofs.{IsProofOf}
use Rattle.bx_says.specs.Texts.{Text}
use Rattle.bx_sat.specs.declared.load.Unread.{Unread}
use Rattle.bx_sat.specs.declared.load.Unread.TheVariants.{BadLine, Failed, NoMemory}

-- the most bytes of a file that is read: 64 GiB
abbrev pub most_bytes : ℕ
most_bytes = 68719476736

-- the file of this name couldn't be loaded, and nothing else changed but the count of such failures; or it has too
-- many bytes, and nothing changed
pub data FailsToRead (old new : DeskState) (name : Text) : Type 0 where
  unloaded : FailsToLoad old new → FailsToRead old new name
  too_long : (front : Text) → length front ≡ most_bytes + 1 → BeginsFile old.files name front → new ≡ old → FailsToRead old new name

-- it is the formula of the text of the file of this name, where the desk tells its files
pub record IsFormulaIn (desk : DeskState) (name : Text) (read : DimacsFormula) : Type 0 where
  pub bytes : Text
  pub file : IsFile desk.files name bytes
  pub is : IsFormulaOf bytes read

-- it is what the text of the file of this name says of a proof for a formula, where the desk tells its files
pub record IsProofIn (formula : Formula) (desk : DeskState) (name : Text) (read : LratProof) : Type 0 where
  pub bytes : Text
  pub file : IsFile desk.files name bytes
  pub is : IsProofOf formula bytes read

-- a text is stuck at this line: as a formula, or as a proof for one
abbrev pub IsBadLine : Option Formula → Text → ℕ → Type 0
IsBadLine None bytes line = formula_of bytes ≡ Err line
IsBadLine (Some formula) bytes line = proof_of formula bytes ≡ Err line

-- the text of the file of this name, where the desk tells its files, is stuck at this line
pub record IsBadLineIn (of : Option Formula) (desk : DeskState) (name : Text) (line : ℕ) : Type 0 where
  pub bytes : Text
  pub file : IsFile desk.files name bytes
  pub bad : IsBadLine of bytes line

-- what is left where a file wasn't loaded for this reason
abbrev pub LeavesUnloaded : DeskState → DeskState → Text → Unread → Type 0
LeavesUnloaded old new name (BadLine line) = ⊥
LeavesUnloaded old new name Failed = FailsToRead old new name
LeavesUnloaded old new name NoMemory = new ≡ old

-- what is left where it wasn't read for this reason
abbrev pub LeavesUnread : Option Formula → DeskState → DeskState → Text → Unread → Type 0
LeavesUnread of old new name (BadLine line) = IsBadLineIn of old name line × (new ≡ old)
LeavesUnread of old new name Failed = FailsToRead old new name
LeavesUnread of old new name NoMemory = new ≡ old

-- the file of this name couldn't be started, or was started and has a front of the text; nothing else changed but the
-- count of such failures
pub data FailsToWrite (old new : DeskState) (name text : Text) : Type 0 where
  unstarted : FailsToStart old new name → FailsToWrite old new name text
  cut_short : (begun : DeskState) → Starts old begun name → WritesFront begun new text → FailsToWrite old new name text
