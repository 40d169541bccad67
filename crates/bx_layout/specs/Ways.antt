-- The way of an edge over a layout: borders one below the other that carry it.
use Rattle.std.specs.Prelude.{◌≡◌, ℕ, zero, suc, ◌+◌, ◌%◌, ◌⊎◌, Some}
use Rattle.bx_forms.specs.declared.side.Side.{Side}
use Rattle.bx_forms.specs.Sides.{opposite}
use Rattle.bx_grid.specs.Tiles.{IsTile, border, below, zone_of}
use Rattle.bx_layout.specs.declared.layout.Layout.{Layout}
use Rattle.bx_layout.specs.Layouts.{edge_on, enters, leaves}

-- n borders that carry edge e lead from tile t down to tile u
abbrev pub IsWay : Layout → ℕ → ℕ → ℕ → ℕ → Type 0
IsWay L e t u zero = t ≡ u
IsWay L e t u (suc n) =
    (side : Side) × (next : ℕ) × (leaves L t side ≡ Some e) × (below L.ratio t side ≡ Some next) ×
    IsWay L e next u n

-- the border is one of those n that carry the edge from tile t down
abbrev pub IsOnWay : Layout → ℕ → ℕ → ℕ → ℕ → Type 0
IsOnWay L e b t zero = ⊥
IsOnWay L e b t (suc n) =
    (side : Side) × (next : ℕ) × (leaves L t side ≡ Some e) × (below L.ratio t side ≡ Some next) ×
    ((border t side ≡ b) ⊎ IsOnWay L e b next n)

-- no other border carries the edge
abbrev pub IsOnlyWay : Layout → ℕ → ℕ → ℕ → Type 0
IsOnlyWay L e t n = (b : ℕ) → edge_on L b ≡ Some e → IsOnWay L e b t n

-- edge e goes from tile t to tile u: it leaves the one on this lower side, and enters the other
-- across
pub record Goes (L : Layout) (e t u : ℕ) (side : Side) : Type 0 where
  pub out : leaves L t side ≡ Some e
  pub next : below L.ratio t side ≡ Some u
  pub comes : enters L u (opposite side) ≡ Some e

-- each signal that leaves a tile goes to a tile of the next of the four clock zones
abbrev pub IsRowClocked : Layout → Type 0
IsRowClocked L = (t e : ℕ) (side : Side) → IsTile L.ratio t → leaves L t side ≡ Some e →
    (u : ℕ) × Goes L e t u side × (zone_of L.ratio u ≡ (zone_of L.ratio t + 1) % 4)
