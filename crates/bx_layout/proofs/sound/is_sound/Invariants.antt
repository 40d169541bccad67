use Rattle.std.proofs.Common.{ℕ, ◌<◌}
use Rattle.bx_layout.specs.Grids.{IsSoundAt}
use Rattle.bx_layout.proofs.sound.is_sound.Given as goal

abbrev pub invariant-loop-tile : goal.invariant-loop-tile
invariant-loop-tile l = (t : ℕ) → t < l.tile → IsSoundAt l.grid t
