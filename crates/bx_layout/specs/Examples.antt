-- Small layouts, form grids and pins that the laws speak of: an input, a `not` and an output below
-- each other in a column of tiles.
use Rattle.std.specs.Prelude.{ℕ, ◌==◌, not, List, [], ◌∷◌, Option, Some, None}
use Rattle.bx_layout.specs.declared.layout.Layout.{Layout}
use Rattle.bx_layout.specs.Grids.{FormGrid}
use Rattle.bx_layout.specs.Permits.{PermitTest}
use Rattle.bx_layout.specs.Pins.{Pin, Pins}

-- a column of so many tiles, with these places and borders
abbrev pub column : ℕ → List ℕ → List (Option ℕ) → Layout
column height places borders =
    record { ratio = record { w = 1; h = height }; places = places; borders = borders }

-- the borders of the three upper tiles, two a tile, from left to right
abbrev pub wired : Option ℕ → Option ℕ → Option ℕ → List (Option ℕ)
wired one two three = one ∷ two ∷ three ∷ None ∷ None ∷ None ∷ []

abbrev pub straight : Layout
straight = column 3 (0 ∷ 1 ∷ 2 ∷ []) (wired None (Some 0) (Some 1))

-- all forms but this one
abbrev pub all_but : ℕ → PermitTest
all_but barred ratio t form = not (form == barred)

-- three forms below each other
abbrev pub column_of : ℕ → ℕ → ℕ → FormGrid
column_of one two three =
    record { ratio = record { w = 1; h = 3 }; tiles = Some one ∷ Some two ∷ Some three ∷ [] }

-- `input_r`, `not_ll` and `output_r`
abbrev pub straight_forms : FormGrid
straight_forms = column_of 1 8 3

abbrev pub pin : ℕ → ℕ → Pin
pin port tile = record { port = port; tile = tile }

abbrev pub pins_with : List Pin → List Pin → Pins
pins_with inputs outputs = record { inputs = inputs; outputs = outputs }
