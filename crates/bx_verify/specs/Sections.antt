-- Sections that can be checked, and those that are right.
use Rattle.std.specs.Prelude.{◌≡◌, ℕ, ◌≤◌, List, slice_get, Option, Some, None}
use Rattle.bx_cert.specs.declared.parts.Section.{Section}
use Rattle.bx_encode.specs.declared.numbers.TheConstants.{MOST_AREA}
use Rattle.bx_grid.specs.Tiles.{tile_count, IsGrid}
use Rattle.bx_layout.specs.Permits.{PermitTest}
use Rattle.bx_network.specs.Networks.{Network}
use Rattle.bx_refutes.specs.Refutations.{IsRefutedBy}

-- the ratio of each section is a grid, and isn't too large for a formula
abbrev pub AreSmall : List Section → Type 0
AreSmall sections = (k : ℕ) (s : Section) → slice_get sections k ≡ Some s
    → IsGrid s.ratio × (tile_count s.ratio ≤ MOST_AREA)

-- where none is found whose proof doesn't refute its ratio, each one's does
abbrev pub AreProved : Network → PermitTest → List Section → Option ℕ → Type 0
AreProved N permit sections (Some k) = Unit {0}
AreProved N permit sections None = (k : ℕ) (s : Section) → slice_get sections k ≡ Some s
    → IsRefutedBy N permit s.ratio s.proof
