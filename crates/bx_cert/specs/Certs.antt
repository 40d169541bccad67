-- Certificates: why no ratio before the last one has a layout, and what came of that one.
use Rattle.std.specs.Prelude.{ℕ, ◌<◌, ◌≤◌, ◌^◌, List, length, ⊤}
use Rattle.std.specs.List.{AllByRecursion}
use Rattle.bx_grid.specs.Orders.{AreLimits, IsRatio}
use Rattle.bx_grid.specs.declared.ratio.Ratio.{Ratio}
use Rattle.bx_grid.specs.declared.ratio.Limits.{Limits}
use Rattle.bx_grid.specs.declared.count.CountProof.{CountProof}
use Rattle.bx_grid.specs.declared.count.CountProof.TheVariants.{Late, Crowd, Cut, Pair}
use Rattle.bx_proof.specs.Steps.{StepList, AreSteps}
use Rattle.bx_proof.specs.declared.refutation.Refutation.{Refutation}
use Rattle.bx_proof.specs.declared.refutation.Refutation.TheVariants.{Count, Clauses}
use Rattle.bx_cert.specs.declared.parts.Spot.{Spot}
use Rattle.bx_cert.specs.declared.parts.Section.{Section}
use Rattle.bx_cert.specs.declared.parts.CertLast.{CertLast}
use Rattle.bx_cert.specs.declared.parts.CertLast.TheVariants.{Found, Undecided, NoneWithin}

-- the limits and the budget of a search, a section for each ratio that was refuted, and how it ended
pub record Certificate : Type 0 where
  pub limits : Limits
  pub budget : ℕ
  pub sections : List Section
  pub last : CertLast

-- numbers other than ids, literals and hints
abbrev pub IsNumber : ℕ → Type 0
IsNumber n = n < 2 ^ 32

pub record IsSpot (spot : Spot) : Type 0 where
  pub x : IsNumber spot.x
  pub y : IsNumber spot.y

abbrev pub IsCount : CountProof → Type 0
IsCount (Late node) = IsNumber node
IsCount (Crowd first last) = IsNumber first × IsNumber last
IsCount (Cut row) = IsNumber row
IsCount (Pair one two) = IsNumber one × IsNumber two

-- steps, of which there is one at least
pub record AreSomeSteps (log : StepList) : Type 0 where
  pub some : 0 < length log.steps
  pub steps : AreSteps log.first log.steps

abbrev pub IsRefutation : Refutation → Type 0
IsRefutation (Count proof) = IsCount proof
IsRefutation (Clauses log) = AreSomeSteps log

pub record IsSection (section : Section) : Type 0 where
  pub ratio : IsRatio section.ratio
  pub proof : IsRefutation section.proof

abbrev pub IsLast : CertLast → Type 0
IsLast (Found ratio spots) = IsRatio ratio × AllByRecursion IsSpot spots
IsLast (Undecided ratio spent) = IsRatio ratio × IsNumber spent
IsLast NoneWithin = ⊤

-- what a certificate keeps: the ranges of its numbers, and a step at least where a section has steps
pub record IsCert (cert : Certificate) : Type 0 where
  pub limits : AreLimits cert.limits
  pub budget : cert.budget ≤ 67108864
  pub sections : AllByRecursion IsSection cert.sections
  pub last : IsLast cert.last
