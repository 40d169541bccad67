-- The text of a log: a line for each step, as the format LRAT has it, with its id, its literals, 0, its hints
-- and 0, parted by one space. Each line is a function of its step and id alone.
use Rattle.std.specs.Prelude.{◌≡◌, ℕ, ◌+◌, ◌<◌, List, [], ◌∷◌, ◌++◌, length, flat_map, codes, decimal, Result, Ok, Err, ⊤}
use Rattle.bx_cnf.specs.Literals.{literal_text}
use Rattle.bx_lines.specs.Lines.{text_of, IsFirstBadLine}
use Rattle.bx_proof.specs.declared.fault.StepFault.{StepFault}
use Rattle.bx_proof.specs.declared.fault.StepFault.TheVariants.{BadStep, NoMemory}
use Rattle.bx_proof.specs.Steps.{Step, StepList, AreSteps}

-- numbers, each behind a space, and the 0 that ends them
abbrev pub list_text : {X : Type 0} → (X → List ℕ) → List X → List ℕ
list_text text xs = flat_map (λ x. 32 ∷ text x) xs ++ codes " 0"

-- the line of a step of this id
abbrev pub step_line : ℕ → Step → List ℕ
step_line id step = decimal id ++ list_text literal_text step.literals ++ list_text decimal step.hints

-- the lines of steps of which the first has this id
abbrev pub step_lines : ℕ → List Step → List (List ℕ)
step_lines id [] = []
step_lines id (s ∷ ss) = step_line id s ∷ step_lines (id + 1) ss

abbrev pub log_text : StepList → List ℕ
log_text log = text_of (step_lines log.first log.steps)

-- bytes are the text of this log, which has a step at least
pub record IsTextOf (log : StepList) (bytes : List ℕ) : Type 0 where
  pub some : 0 < length log.steps
  pub steps : AreSteps log.first log.steps
  pub spelled : bytes ≡ log_text log

-- bytes are the text of some log
abbrev pub IsLogText : List ℕ → Type 0
IsLogText bytes = (log : StepList) × IsTextOf log bytes

-- what bytes read as: the log whose text they are, or the first line at which they stop being a text
abbrev pub Reads : List ℕ → Result StepList StepFault → Type 0
Reads bytes (Ok log) = IsTextOf log bytes
Reads bytes (Err (BadStep k)) = IsFirstBadLine IsLogText bytes k
Reads bytes (Err NoMemory) = ⊤
