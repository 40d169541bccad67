-- What refutes a ratio, and ratios in order.
use Rattle.std.specs.Prelude.{◌≡◌, ℕ, ◌<◌, List, slice_get, Some}
use Rattle.bx_bounds.specs.Refutes.{Refutes}
use Rattle.bx_cert.specs.declared.parts.Section.{Section}
use Rattle.bx_encode.specs.Formula.{formula}
use Rattle.bx_grid.specs.declared.ratio.Ratio.{Ratio}
use Rattle.bx_layout.specs.Legal.{LacksLayout}
use Rattle.bx_layout.specs.Permits.{PermitTest}
use Rattle.bx_network.specs.Networks.{Network}
use Rattle.bx_proof.specs.Accepted.{IsAccepted}
use Rattle.bx_proof.specs.declared.refutation.Refutation.{Refutation}
use Rattle.bx_proof.specs.declared.refutation.Refutation.TheVariants.{Count, Clauses}

module _ (N : Network) (permit : PermitTest) where
  -- the inequality of the count holds, or the steps are accepted for the ratio's formula
  abbrev pub IsRefutedBy : Ratio → Refutation → Type 0
  IsRefutedBy r (Count proof) = Refutes N r proof
  IsRefutedBy r (Clauses steps) = IsAccepted (formula N permit r) steps

  -- each section is of the ratio at its place, and refutes it
  abbrev pub AreSections : List Ratio → List Section → Type 0
  AreSections ratios sections = (k : ℕ) (s : Section) → slice_get sections k ≡ Some s
      → (slice_get ratios k ≡ Some s.ratio) × IsRefutedBy s.ratio s.proof

  -- none of the first so many ratios has a legal layout
  abbrev pub LackLayouts : List Ratio → ℕ → Type 0
  LackLayouts ratios count = (k : ℕ) (r : Ratio) → k < count → slice_get ratios k ≡ Some r
      → LacksLayout N permit r
