use Rattle.std.proofs.Common.{◌≡◌, ◌↔◌, ℕ, ◌<◌, Some}
use Rattle.bx_layout.specs.Grids.{form_at}
use Rattle.bx_layout.specs.TileForms.{HasForm}
use Rattle.bx_trace.proofs.forms.has_form_grid.Given as goal

abbrev pub invariant-loop-tile : goal.invariant-loop-tile
invariant-loop-tile l = (t : ℕ) → t < l.tile → (form : ℕ) → (form_at l.grid t ≡ Some form) ↔ HasForm l.net l.layout t form
