-- The two upper or lower sides of a tile.
use Rattle.std.specs.Prelude.{ℕ, ◌+◌, Bool, if◌then◌else◌, List, [], ◌∷◌, ◌++◌}
use Rattle.bx_forms.specs.declared.side.Side.{Side}
use Rattle.bx_forms.specs.declared.side.Side.TheVariants.{Left, Right}
use Rattle.bx_forms.specs.declared.side.Sides.{Sides}

abbrev pub opposite : Side → Side
opposite Left = Right
opposite Right = Left

-- whether the side is one of these
abbrev pub is_used : Sides → Side → Bool
is_used sides Left = sides.left
is_used sides Right = sides.right

abbrev pub side_count : Sides → ℕ
side_count sides = (if sides.left then 1 else 0) + (if sides.right then 1 else 0)

-- of a value on the left and one on the right, those on the used sides, from left to right
abbrev pub used_values : Sides → Bool → Bool → List Bool
used_values sides left right =
    (if sides.left then left ∷ [] else []) ++ (if sides.right then right ∷ [] else [])
