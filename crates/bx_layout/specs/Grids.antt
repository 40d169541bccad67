-- Form grids: a form, or nothing, on each tile of a grid, and when such a grid is sound.
use Rattle.std.specs.Prelude.{◌≡◌, ℕ, Bool, false, IsTrue, List, length, slice_index_or, Option, Some, None, IsSome, ◌⊎◌}
use Rattle.bx_forms.specs.declared.kind.Kind.{Kind}
use Rattle.bx_forms.specs.declared.kind.Kind.TheVariants.{Input, Output}
use Rattle.bx_forms.specs.declared.side.Side.{Side}
use Rattle.bx_forms.specs.declared.side.Sides.{Sides}
use Rattle.bx_forms.specs.Forms.{IsForm, form_node, form_upper, form_lower}
use Rattle.bx_forms.specs.Sides.{opposite, is_used}
use Rattle.bx_grid.specs.declared.ratio.Ratio.{Ratio}
use Rattle.bx_grid.specs.Tiles.{tile_count, IsGrid, IsTile, IsInFirstRow, IsInLastRow, below, above}

-- for each tile its form, or none where it is empty
pub record FormGrid : Type 0 where
  pub ratio : Ratio
  pub tiles : List (Option ℕ)

-- there is an entry for each tile of a grid, and each form is one of the table's
pub record IsFormGrid (g : FormGrid) : Type 0 where
  pub grid : IsGrid g.ratio
  pub whole : length g.tiles ≡ tile_count g.ratio
  pub forms : (t form : ℕ) → slice_index_or g.tiles t None ≡ Some form → IsForm form

abbrev pub form_at : FormGrid → ℕ → Option ℕ
form_at g t = slice_index_or g.tiles t None

-- of the form on a tile, if there is one: the node that it holds, and the sides that it uses
abbrev pub node_in : Option ℕ → Option Kind
node_in None = None
node_in (Some form) = form_node form

abbrev pub upper_in : Option ℕ → Sides
upper_in None = record { left = false; right = false }
upper_in (Some form) = form_upper form

abbrev pub lower_in : Option ℕ → Sides
lower_in None = record { left = false; right = false }
lower_in (Some form) = form_lower form

-- whether something comes in on this upper side of a tile, and whether something goes out on this
-- lower side
abbrev pub takes : FormGrid → ℕ → Side → Bool
takes g t side = is_used (upper_in (form_at g t)) side

abbrev pub sends : FormGrid → ℕ → Side → Bool
sends g t side = is_used (lower_in (form_at g t)) side

-- nothing goes out where there is no tile
abbrev pub sends_from : FormGrid → Option ℕ → Side → Bool
sends_from g None side = false
sends_from g (Some t) side = sends g t side

-- whether the tile above an upper side of a tile goes out to it
abbrev pub goes_to : FormGrid → ℕ → Side → Bool
goes_to g t side = sends_from g (above g.ratio t side) (opposite side)

-- the form on the tile holds a node of this kind
abbrev pub Holds : FormGrid → ℕ → Kind → Type 0
Holds g t kind = node_in (form_at g t) ≡ Some kind

abbrev pub IsEmpty : FormGrid → ℕ → Type 0
IsEmpty g t = form_at g t ≡ None

-- an input stands in the first row only, and an output in the last, and nothing else stands there
pub record StandsInItsRow (g : FormGrid) (t : ℕ) : Type 0 where
  pub input : Holds g t Input → IsInFirstRow g.ratio t
  pub output : Holds g t Output → IsInLastRow g.ratio t
  pub first : IsInFirstRow g.ratio t → IsEmpty g t ⊎ Holds g t Input
  pub last : IsInLastRow g.ratio t → IsEmpty g t ⊎ Holds g t Output

-- what has to hold of a tile for the grid to be sound
pub record IsSoundAt (g : FormGrid) (t : ℕ) : Type 0 where
  -- it takes on exactly those upper sides on which the tile above goes out
  pub meets : (side : Side) → takes g t side ≡ goes_to g t side
  -- nothing leads off the grid
  pub stays : (side : Side) → IsTrue (sends g t side) → IsSome (below g.ratio t side)
  pub row : StandsInItsRow g t

abbrev pub IsSound : FormGrid → Type 0
IsSound g = (t : ℕ) → IsTile g.ratio t → IsSoundAt g t

-- what goes out of a tile comes in at the tile below
abbrev pub LosesNothing : FormGrid → Type 0
LosesNothing g = (t : ℕ) (side : Side) → IsTile g.ratio t → IsTrue (sends g t side) →
    (u : ℕ) × (below g.ratio t side ≡ Some u) × IsTrue (takes g u (opposite side))
