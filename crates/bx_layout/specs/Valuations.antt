-- The values of the borders of a form grid, by the equations of its tiles: each lower side of a
-- tile has what the tile's form sends out there for what it reads.
use Rattle.std.specs.Prelude.{◌≡◌, ℕ, ◌*◌, Bool, true, false, if◌then◌else◌, List, [], ◌∷◌, length, Option, Some, None}
use Rattle.bx_logic.specs.Values.{value_of}
use Rattle.bx_forms.specs.declared.kind.Kind.{Kind}
use Rattle.bx_forms.specs.declared.kind.Kind.TheVariants.{Input}
use Rattle.bx_forms.specs.declared.side.Side.{Side}
use Rattle.bx_forms.specs.declared.side.Side.TheVariants.{Left, Right}
use Rattle.bx_forms.specs.Forms.{form_sends}
use Rattle.bx_forms.specs.Sides.{used_values}
use Rattle.bx_grid.specs.Tiles.{tile_count, IsTile, border, entering}
use Rattle.bx_layout.specs.Grids.{FormGrid, form_at, node_in, upper_in}

-- the value of the border that comes in on this upper side, false where there is none
abbrev pub value_on : List Bool → Option ℕ → Bool
value_on borders None = false
value_on borders (Some b) = value_of borders b

-- the values that come in on the used upper sides of a tile, from left to right
abbrev pub comes_in : FormGrid → List Bool → ℕ → List Bool
comes_in g borders t =
    used_values (upper_in (form_at g t))
    (value_on borders (entering g.ratio t Left)) (value_on borders (entering g.ratio t Right))

abbrev pub is_input : Kind → Bool
is_input Input = true
is_input _ = false

-- a tile of these reads what is given from outside
abbrev pub reads_given : Option Kind → Bool
reads_given None = false
reads_given (Some kind) = is_input kind

-- what a tile reads: an input the value that is given for its tile, and any other tile what comes
-- in
abbrev pub reads : FormGrid → List Bool → List Bool → ℕ → List Bool
reads g given borders t =
    if reads_given (node_in (form_at g t)) then value_of given t ∷ [] else comes_in g borders t

-- what goes out on a lower side, for what is read: nothing where the tile is empty
abbrev pub sent_value : Option ℕ → List Bool → Side → Bool
sent_value None reads side = false
sent_value (Some form) reads side = form_sends form reads side

-- a value for each border, false where nothing goes out: each lower side of a tile has what is sent
-- there, where the tiles of the first row have these given values
pub record IsBorderValuation (g : FormGrid) (given borders : List Bool) : Type 0 where
  pub whole : length borders ≡ 2 * tile_count g.ratio
  pub each : (t : ℕ) (side : Side) → IsTile g.ratio t →
      value_of borders (border t side) ≡ sent_value (form_at g t) (reads g given borders t) side

-- there is one valuation, and no other
pub record IsOnlyBorderValuation (g : FormGrid) (given borders : List Bool) : Type 0 where
  pub is : IsBorderValuation g given borders
  pub only : (others : List Bool) → IsBorderValuation g given others → others ≡ borders
