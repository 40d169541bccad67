-- Which upper side a form without a node hands on to which lower side.
use Rattle.std.specs.Prelude.{◌≡◌, ℕ, true, false}
use Rattle.bx_forms.specs.declared.side.Side.{Side}
use Rattle.bx_forms.specs.Forms.{form_value}
use Rattle.bx_layout.specs.TileForms.{on_side}

-- where two values come in that differ, the form sends out on the lower side that of the upper side
abbrev pub Passes : ℕ → Side → Side → Type 0
Passes form from side =
    (form_value form true false side ≡ on_side true false from)
    × (form_value form false true side ≡ on_side false true from)
