-- The borders between two rows.
use Rattle.std.specs.Prelude.{◌≡◌, ℕ, Some}
use Rattle.bx_forms.specs.declared.side.Side.{Side}
use Rattle.bx_grid.specs.declared.ratio.Ratio.{Ratio}
use Rattle.bx_grid.specs.Tiles.{y_of, below, border}

-- the border leads from a tile of this row to a tile of the next
abbrev pub LeadsFrom : Ratio → ℕ → ℕ → Type 0
LeadsFrom r row b =
    (t : ℕ) × (side : Side) × (next : ℕ) × (y_of r t ≡ row) × (border t side ≡ b) ×
    (below r t side ≡ Some next)
