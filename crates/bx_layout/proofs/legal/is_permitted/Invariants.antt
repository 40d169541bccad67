use Rattle.std.proofs.Common.{ℕ, ◌<◌}
use Rattle.bx_layout.specs.Permits.{Allows, test_of}
use Rattle.bx_layout.specs.TileForms.{HasForm}
use Rattle.bx_layout.proofs.legal.is_permitted.Given as goal

abbrev pub invariant-loop-tile : goal.invariant-loop-tile
invariant-loop-tile l = (t : ℕ) → t < l.tile → (form : ℕ) → HasForm l.net l.layout t form → Allows (test_of l.permit) l.layout.ratio t form
