-- What readers find at the front of bytes.
use Rattle.std.specs.Prelude.{◌≡◌, ℕ, ◌+◌, ◌<◌, ◌≤◌, ◌^◌, List, [], ◌∷◌, ◌++◌, length, map, flat_map, ⊤}
use Rattle.std.specs.List.{AllByRecursion}
use Rattle.bx_grid.specs.declared.ratio.Limits.{Limits}
use Rattle.bx_grid.specs.declared.count.CountProof.{CountProof}
use Rattle.bx_lines.specs.Lines.{ended, text_of}
use Rattle.bx_lines.specs.Decimals.{EndsNumber, IsNumberAt}
use Rattle.bx_proof.specs.Steps.{StepList, AreSteps}
use Rattle.bx_proof.specs.Texts.{step_lines}
use Rattle.bx_proof.specs.declared.fault.StepFault.{StepFault}
use Rattle.bx_proof.specs.declared.fault.StepFault.TheVariants.{BadStep, NoMemory as StepNoMemory}
use Rattle.bx_cert.specs.declared.fault.CertFault.{CertFault}
use Rattle.bx_cert.specs.declared.fault.CertFault.TheVariants.{BadCert, NoMemory}
use Rattle.bx_cert.specs.declared.line.Line.{Line}
use Rattle.bx_cert.specs.declared.line.Line.TheVariants.{Head, Bounds, Counted, Run, Place, End}
use Rattle.bx_cert.specs.declared.parts.Spot.{Spot}
use Rattle.bx_cert.specs.declared.parts.Section.{Section}
use Rattle.bx_cert.specs.declared.parts.CertLast.{CertLast}
use Rattle.bx_cert.specs.Certs.{IsNumber, IsCount, IsSpot, IsSection, IsLast}
use Rattle.bx_cert.specs.Texts.{numbers, count_text, line_text, section_lines, last_lines}
use Rattle.bx_cert.specs.Grammar.{State, IsSaid, Stops}

-- bytes begin with numbers, each behind a space
pub record AreNumbersAt (bytes ns rest : List ℕ) : Type 0 where
  pub are : AllByRecursion IsNumber ns
  pub spelled : bytes ≡ numbers ns ++ rest
  pub stops : EndsNumber rest

-- bytes begin with a line of a word and numbers
pub record IsWordedAt (bytes word ns rest : List ℕ) : Type 0 where
  pub are : AllByRecursion IsNumber ns
  pub spelled : bytes ≡ word ++ (numbers ns ++ 10 ∷ rest)

-- bytes begin with the rest of a line that says which count
pub record IsCountAt (bytes : List ℕ) (proof : CountProof) (rest : List ℕ) : Type 0 where
  pub count : IsCount proof
  pub spelled : bytes ≡ count_text proof ++ 10 ∷ rest

-- bytes begin with a line
pub record IsLineAt (bytes : List ℕ) (line : Line) (rest : List ℕ) : Type 0 where
  pub said : IsSaid line
  pub spelled : bytes ≡ line_text line ++ 10 ∷ rest

-- a line that stands once at most
abbrev pub IsRareLine : Line → Type 0
IsRareLine (Counted ratio proof) = ⊥
IsRareLine (Run ratio count) = ⊥
IsRareLine (Place spot) = ⊥
IsRareLine line = ⊤

-- bytes begin with the lines of so many steps
pub record IsRunAt (bytes : List ℕ) (count : ℕ) (log : StepList) (rest : List ℕ) : Type 0 where
  pub whole : length log.steps ≡ count
  pub steps : AreSteps log.first log.steps
  pub fits : log.first + count ≤ 2 ^ 32
  pub spelled : bytes ≡ text_of (step_lines log.first log.steps) ++ rest

-- bytes begin with an id from which there are ids for so many steps
abbrev pub HasIds : List ℕ → ℕ → Type 0
HasIds bytes count = (id : ℕ) × (rest : List ℕ) × IsNumberAt bytes id rest × (id + count ≤ 2 ^ 32)

-- bytes begin with the lines of a section
pub record IsSectionAt (bytes : List ℕ) (section : Section) (rest : List ℕ) : Type 0 where
  pub is : IsSection section
  pub spelled : bytes ≡ text_of (section_lines section) ++ rest

-- a line that begins no section
abbrev pub IsNoSection : Line → Type 0
IsNoSection (Counted ratio proof) = ⊥
IsNoSection (Run ratio count) = ⊥
IsNoSection line = ⊤

-- bytes begin with the lines of sections, and a line that begins none
pub record AreSectionsAt (bytes : List ℕ) (sections : List Section) (line : Line) (rest : List ℕ) : Type 0 where
  pub are : AllByRecursion IsSection sections
  pub said : IsSaid line
  pub no_section : IsNoSection line
  pub spelled : bytes ≡ text_of (flat_map section_lines sections) ++ (ended (line_text line) ++ rest)

-- bytes begin with the lines of places, and the end
pub record AreSpotsAt (bytes : List ℕ) (spots : List Spot) (rest : List ℕ) : Type 0 where
  pub are : AllByRecursion IsSpot spots
  pub spelled : bytes ≡ text_of (map (λ spot. line_text (Place spot)) spots) ++ (ended (line_text End) ++ rest)

-- bytes begin with the lines that say how a search ended, and the end
pub record IsLastAt (bytes : List ℕ) (last : CertLast) (rest : List ℕ) : Type 0 where
  pub is : IsLast last
  pub spelled : bytes ≡ text_of (last_lines last) ++ (ended (line_text End) ++ rest)

-- bytes begin with the first two lines
pub record IsFrontAt (bytes : List ℕ) (limits : Limits) (budget : ℕ) (rest : List ℕ) : Type 0 where
  pub said : IsSaid (Bounds limits budget)
  pub spelled : bytes ≡ text_of (line_text Head ∷ line_text (Bounds limits budget) ∷ []) ++ rest

-- behind so many lines, bytes stop at a line that no text goes on with
abbrev pub StopsAt : State → List ℕ → ℕ → CertFault → Type 0
StopsAt from bytes before (BadCert k) = (m : ℕ) × (k ≡ before + m) × Stops from bytes m
StopsAt from bytes before NoMemory = ⊤

-- the fault of a log behind so many lines
abbrev pub fault_behind : ℕ → StepFault → CertFault
fault_behind before (BadStep k) = BadCert (before + k)
fault_behind before StepNoMemory = NoMemory

-- the number of its line has 64 bits
abbrev pub FitsBehind : ℕ → StepFault → Type 0
FitsBehind before (BadStep k) = before + k < 2 ^ 64
FitsBehind before StepNoMemory = ⊤
