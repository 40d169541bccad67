use Rattle.std.proofs.Common.{◌≡◌, ℕ, ◌<◌, slice_get, Some}
use Rattle.bx_layout.proofs.legal.are_tiles.Given as goal

abbrev pub invariant-loop-place : goal.invariant-loop-place
invariant-loop-place l = (v : ℕ) → v < l.place-index → (t : ℕ) → slice_get l.places v ≡ Some t → t < l.count
