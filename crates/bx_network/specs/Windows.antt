-- The rows on which a node may stand, where there are so many rows. The earliest and the latest row of a
-- node are whole numbers that may be negative, so they are compared by sums.
use Rattle.std.specs.Prelude.{◌≡◌, ℕ, ◌+◌, ◌<◌, ◌≤◌}
use Rattle.bx_forms.specs.declared.kind.Kind.{Kind}
use Rattle.bx_forms.specs.declared.kind.Kind.TheVariants.{Input, Output}
use Rattle.bx_network.specs.Networks.{Network, HasKind}
use Rattle.bx_network.specs.Paths.{IsDown, IsUp}

-- an input stands in row 0, an output in the last row, and any other node in a row with room for its
-- longest paths: at least `down` rows above it, and at least `up` below
abbrev pub MayStand : Kind → ℕ → ℕ → ℕ → ℕ → Type 0
MayStand Input down up row height = row ≡ 0
MayStand Output down up row height = row + 1 ≡ height
MayStand _ down up row height = (down ≤ row) × (row + up + 1 ≤ height)

-- the row is in the node's window
pub record IsInWindow (N : Network) (v row height : ℕ) : Type 0 where
  pub kind : Kind
  pub is_kind : HasKind N v kind
  pub down : ℕ
  pub is_down : IsDown N v down
  pub up : ℕ
  pub is_up : IsUp N v up
  pub within : MayStand kind down up row height

-- the earliest row of such a node is at least a
abbrev pub EarliestFrom : Kind → ℕ → ℕ → ℕ → Type 0
EarliestFrom Input down height a = a ≤ 0
EarliestFrom Output down height a = a < height
EarliestFrom _ down height a = a ≤ down

-- the latest row of such a node is at most b
abbrev pub LatestTo : Kind → ℕ → ℕ → ℕ → Type 0
LatestTo Input up height b = 0 ≤ b
LatestTo Output up height b = height ≤ b + 1
LatestTo _ up height b = height ≤ b + up + 1
