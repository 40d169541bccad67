use Rattle.std.proofs.Common.{◌≡◌, ℕ, ◌<◌, Some}
use Rattle.bx_layout.specs.Grids.{form_at}
use Rattle.bx_library.specs.Tiles.{IsOffered}
use Rattle.bx_tests_verify.proofs.found.are_offered.Given as goal

abbrev pub invariant-loop-tile : goal.invariant-loop-tile
invariant-loop-tile l = (t form : ℕ) → t < l.tile → form_at l.grid t ≡ Some form → IsOffered l.library form
