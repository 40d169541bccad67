use Rattle.std.proofs.Common.{◌≡◌, ℕ, ◌<◌, slice_get, Some}
use Rattle.bx_layout.proofs.legal.are_apart.Given as goal

abbrev pub invariant-loop-v : goal.invariant-loop-v
invariant-loop-v l = (v : ℕ) → v < l.v → (u t : ℕ) → u < v → slice_get l.places u ≡ Some t → slice_get l.places v ≡ Some t → ⊥
