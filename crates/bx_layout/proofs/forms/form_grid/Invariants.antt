use Rattle.std.proofs.Common.{◌≡◌, ℕ, ◌<◌, ◌↔◌, get_or, None, Some, vec_len}
use Rattle.bx_network.specs.Networks.{IsNetwork}
use Rattle.bx_layout.specs.TileForms.{HasForm}
use Rattle.bx_layout.proofs.forms.form_grid.Given as goal

abbrev pub invariant-loop-tile : goal.invariant-loop-tile
invariant-loop-tile l = (0 < l.tile → IsNetwork l.net) × (vec_len l.tiles ≡ l.tile) × ((t : ℕ) → t < l.tile → (form : ℕ) → (get_or l.tiles.items t None ≡ Some form) ↔ HasForm l.net l.layout t form)
