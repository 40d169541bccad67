use Rattle.std.proofs.Common.{◌≡◌, ℕ, ◌<◌}
use Rattle.bx_forms.specs.declared.side.Side.{Side}
use Rattle.bx_logic.specs.Values.{value_of}
use Rattle.bx_grid.specs.Tiles.{border}
use Rattle.bx_layout.proofs.Valuations.{sent_at}
use Rattle.bx_layout.proofs.eval.eval_grid.Given as goal

abbrev pub invariant-loop-tile : goal.invariant-loop-tile
invariant-loop-tile l = (t : ℕ) → t < l.tile → (side : Side) → value_of l.borders (border t side) ≡ sent_at l.grid l.given l.borders t side
