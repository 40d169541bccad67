use Rattle.std.proofs.Common.{◌≡◌, ℕ, ◌<◌, None}
use Rattle.bx_forms.specs.declared.side.Side.{Side}
use Rattle.bx_grid.specs.Tiles.{below}
use Rattle.bx_layout.specs.Layouts.{leaves}
use Rattle.bx_layout.proofs.legal.stays_on_grid.Given as goal

abbrev pub invariant-loop-tile : goal.invariant-loop-tile
invariant-loop-tile l = (t : ℕ) → t < l.tile → (side : Side) → below l.layout.ratio t side ≡ None → leaves l.layout t side ≡ None
