-- The texts of certificates as a grammar by lines: a way to go on from each line. A state is what was read so
-- far. It is left by a line alone behind which an ending is left.
use Rattle.std.specs.Prelude.{◌≡◌, ℕ, ◌+◌, ◌<◌, ◌≤◌, ◌^◌, ◌==◌, List, [], ◌∷◌, ◌++◌, length, ⊤, if◌then◌else◌}
use Rattle.bx_grid.specs.Orders.{AreLimits, IsRatio}
use Rattle.bx_grid.specs.declared.ratio.Ratio.{Ratio}
use Rattle.bx_grid.specs.declared.ratio.Limits.{Limits}
use Rattle.bx_lines.specs.Lines.{text_of}
use Rattle.bx_lines.specs.Grammars.{Grammar, Lead, IsStuck}
use Rattle.bx_proof.specs.Steps.{Step, StepList, IsStep}
use Rattle.bx_proof.specs.Texts.{step_line}
use Rattle.bx_proof.specs.declared.refutation.Refutation.{Refutation}
use Rattle.bx_proof.specs.declared.refutation.Refutation.TheVariants.{Count, Clauses}
use Rattle.bx_cert.specs.declared.line.Line.{Line}
use Rattle.bx_cert.specs.declared.line.Line.TheVariants.{Head, Bounds, Counted, Run, FoundAt, GaveUp, NoRatio, Place, End}
use Rattle.bx_cert.specs.declared.parts.Spot.{Spot}
use Rattle.bx_cert.specs.declared.parts.Section.{Section}
use Rattle.bx_cert.specs.declared.parts.CertLast.{CertLast}
use Rattle.bx_cert.specs.declared.parts.CertLast.TheVariants.{Found, Undecided, NoneWithin}
use Rattle.bx_cert.specs.Certs.{Certificate, IsNumber, IsSpot, IsCount}
use Rattle.bx_cert.specs.Texts.{line_text}

-- what a line says is in its range; so many steps can follow, since the first has an id of 2 at least
abbrev pub IsSaid : Line → Type 0
IsSaid Head = ⊤
IsSaid (Bounds limits budget) = AreLimits limits × (budget ≤ 67108864)
IsSaid (Counted ratio proof) = IsRatio ratio × IsCount proof
IsSaid (Run ratio count) = IsRatio ratio × (1 ≤ count) × (count ≤ 4294967294)
IsSaid (FoundAt ratio) = IsRatio ratio
IsSaid (GaveUp ratio spent) = IsRatio ratio × IsNumber spent
IsSaid NoRatio = ⊤
IsSaid (Place spot) = IsSpot spot
IsSaid End = ⊤

-- the limits, the budget and the sections so far
pub record Draft : Type 0 where
  pub limits : Limits
  pub budget : ℕ
  pub sections : List Section

abbrev pub with_section : Draft → Ratio → Refutation → Draft
with_section d ratio proof = record d { sections = d.sections ++ record { ratio = ratio; proof = proof } ∷ [] }

abbrev pub ended_by : Draft → CertLast → Certificate
ended_by d last = record { limits = d.limits; budget = d.budget; sections = d.sections; last = last }

-- What is to come: the head; the limits; a section or how it ended; the first of so many steps; a further step,
-- behind those of this log; a place or the end; the end; nothing.
pub data State : Type 0 where
  at_head : State
  at_limits : State
  at_section : Draft → State
  at_first_step : Draft → Ratio → ℕ → State
  at_step : Draft → Ratio → ℕ → StepList → State
  at_place : Draft → Ratio → List Spot → State
  at_end : Certificate → State
  at_nothing : Certificate → State

-- a line leads from one state to another
abbrev pub Leads : State → Line → State → Type 0
Leads at_head Head to = to ≡ at_limits
Leads at_limits (Bounds limits budget) to = to ≡ at_section (record { limits = limits; budget = budget; sections = [] })
Leads (at_section d) (Counted ratio proof) to = to ≡ at_section (with_section d ratio (Count proof))
Leads (at_section d) (Run ratio count) to = to ≡ at_first_step d ratio count
Leads (at_section d) (FoundAt ratio) to = to ≡ at_place d ratio []
Leads (at_section d) (GaveUp ratio spent) to = to ≡ at_end (ended_by d (Undecided ratio spent))
Leads (at_section d) NoRatio to = to ≡ at_end (ended_by d NoneWithin)
Leads (at_place d ratio spots) (Place spot) to = to ≡ at_place d ratio (spots ++ spot ∷ [])
Leads (at_place d ratio spots) End to = to ≡ at_nothing (ended_by d (Found ratio spots))
Leads (at_end cert) End to = to ≡ at_nothing cert
Leads from line to = ⊥

pub record GoesByLine (from : State) (bytes : List ℕ) (to : State) : Type 0 where
  pub line : Line
  pub said : IsSaid line
  pub spelled : bytes ≡ line_text line
  pub leads : Leads from line to

abbrev pub log_of : ℕ → List Step → StepList
log_of first steps = record { first = first; steps = steps }

-- behind these steps of so many
abbrev pub behind_steps : Draft → Ratio → ℕ → StepList → State
behind_steps d ratio count log = if length log.steps == count then at_section (with_section d ratio (Clauses log)) else at_step d ratio count log

-- the first of so many steps, which leaves ids for the others
pub record GoesByFirst (d : Draft) (ratio : Ratio) (count : ℕ) (bytes : List ℕ) (to : State) : Type 0 where
  pub id : ℕ
  pub step : Step
  pub is : IsStep id step
  pub some : 1 ≤ count
  pub fits : id + count ≤ 2 ^ 32
  pub spelled : bytes ≡ step_line id step
  pub reached : to ≡ behind_steps d ratio count (log_of id (step ∷ []))

-- a further one
pub record GoesByStep (d : Draft) (ratio : Ratio) (count : ℕ) (log : StepList) (bytes : List ℕ) (to : State) : Type 0 where
  pub step : Step
  pub is : IsStep (log.first + length log.steps) step
  pub above : 1 < log.first
  pub left : length log.steps < count
  pub fits : log.first + count ≤ 2 ^ 32
  pub spelled : bytes ≡ step_line (log.first + length log.steps) step
  pub reached : to ≡ behind_steps d ratio count (log_of log.first (log.steps ++ step ∷ []))

abbrev pub Goes : State → List ℕ → State → Type 0
Goes (at_first_step d ratio count) bytes to = GoesByFirst d ratio count bytes to
Goes (at_step d ratio count log) bytes to = GoesByStep d ratio count log bytes to
Goes from bytes to = GoesByLine from bytes to

-- a text may end behind its last line alone
abbrev pub Ends : State → Type 0
Ends (at_nothing cert) = ⊤
Ends from = ⊥

abbrev pub cert_grammar : Grammar State
cert_grammar = record { start = at_head; goes = Goes; ends = Ends }

-- from a state bytes go on up to a line, counted from 1, that no text goes on with
pub record Stops (from : State) (bytes : List ℕ) (k : ℕ) : Type 0 where
  pub front : List (List ℕ)
  pub state : State
  pub rest : List ℕ
  pub lead : Lead Goes from front state
  pub split : bytes ≡ text_of front ++ rest
  pub stuck : IsStuck cert_grammar state rest
  pub count : k ≡ length front + 1
