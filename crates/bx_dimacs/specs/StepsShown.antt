-- What is held of the text of a proof while it is read.
use Rattle.std.specs.Prelude.{◌≡◌, ℕ, Bool, true, false, map, Option, Some, None, ⊤}
use Rattle.bx_cnf.specs.Literals.{literal_of}
use Rattle.bx_cnf.specs.Formulas.{Formula}
use Rattle.bx_proof.specs.Steps.{Step}
use Rattle.bx_dimacs.specs.declared.line.StepLine.{StepLine}
use Rattle.bx_dimacs.specs.declared.line.Line.{Line}
use Rattle.bx_dimacs.specs.declared.line.Line.TheVariants.{Step as StepOf, Deletion, Bad as NoLine}
use Rattle.bx_dimacs.specs.declared.proof.LratProof.{LratProof}
use Rattle.bx_dimacs.specs.declared.read.Reader.{Reader}
use Rattle.bx_dimacs.specs.declared.read.Progress.{Progress}
use Rattle.bx_dimacs.specs.declared.read.Progress.TheVariants.{On, Ended, Bad}
use Rattle.bx_dimacs.specs.Proofs.{IsOpen, IsRead, KeepsSteps}
use Rattle.bx_dimacs.specs.ProofTexts.{StepText, LineText, adds, deletes, neither, ProofText, is_over}

-- the step of this id that the numbers of a line make
abbrev pub step_of : StepLine → ℕ → StepText
step_of line id = record { id = id; literals = map literal_of line.literals.items; hints = line.hints.items }

-- the step that was made of them
abbrev pub step_made : Reader → Step
step_made reader = record { literals = reader.literals.items; hints = reader.hints.items }

-- what a line was found to be
abbrev pub line_found : StepLine → Line → LineText
line_found line (StepOf id) = adds (step_of line id)
line_found line Deletion = deletes
line_found line NoLine = neither

-- what stands of a proof where it goes on so
abbrev pub StandsAt : Formula → LratProof → Progress → Type 0
StandsAt formula read On = IsOpen formula read
StandsAt formula read Ended = IsRead formula read
StandsAt formula read Bad = ⊤

-- it keeps what a text says so far, which is over or not
abbrev pub KeepsSoFar : Formula → LratProof → Bool → ProofText → Type 0
KeepsSoFar formula read over text = KeepsSteps formula text read × (is_over text ≡ over)

-- how a proof goes on is how its text does
abbrev pub GoesOnAs : Formula → LratProof → Progress → Option ProofText → Type 0
GoesOnAs formula read On None = ⊥
GoesOnAs formula read On (Some text) = KeepsSoFar formula read false text
GoesOnAs formula read Ended None = ⊥
GoesOnAs formula read Ended (Some text) = KeepsSoFar formula read true text
GoesOnAs formula read Bad None = ⊤
GoesOnAs formula read Bad (Some text) = ⊥
