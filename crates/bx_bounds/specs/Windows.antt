-- Bounds on the earliest and the latest row of a node, where there are so many rows.
use Rattle.std.specs.Prelude.{ℕ, ◌≤◌}
use Rattle.bx_forms.specs.declared.kind.Kind.{Kind}
use Rattle.bx_network.specs.Networks.{Network, HasKind}
use Rattle.bx_network.specs.Paths.{IsDown, IsUp}
use Rattle.bx_network.specs.Windows.{EarliestFrom, LatestTo}

-- the earliest row of node v is at least this row
pub record IsEarliestFrom (N : Network) (v row height : ℕ) : Type 0 where
  pub kind : Kind
  pub is_kind : HasKind N v kind
  pub down : ℕ
  pub is_down : IsDown N v down
  pub from : EarliestFrom kind down height row

-- the latest row of node v is at most this row
pub record IsLatestTo (N : Network) (v row height : ℕ) : Type 0 where
  pub kind : Kind
  pub is_kind : HasKind N v kind
  pub up : ℕ
  pub is_up : IsUp N v up
  pub to : LatestTo kind up height row

-- what bounds the earliest row of such a node bounds this row, and so does what bounds the latest
pub record IsBetween (kind : Kind) (down up row height : ℕ) : Type 0 where
  pub earliest : (a : ℕ) → EarliestFrom kind down height a → a ≤ row
  pub latest : (b : ℕ) → LatestTo kind up height b → row ≤ b
