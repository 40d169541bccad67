-- The dots of a form grid: those of its tiles' forms, each moved to where its tile stands.
use Rattle.std.specs.Prelude.{◌≡◌, ◌↔◌, ℕ, ◌+◌, ◌*◌, ◌<◌, List, [], map, flat_map, Contains, Option, Some, None}
use Rattle.std.specs.List.{range_with_len}
use Rattle.bx_grid.specs.declared.ratio.Ratio.{Ratio}
use Rattle.bx_grid.specs.Tiles.{tile_count, IsTile}
use Rattle.bx_layout.specs.Grids.{FormGrid, form_at}
use Rattle.bx_library.specs.declared.dot.Dot.{Dot}
use Rattle.bx_library.specs.Tiles.{Tiles, form_dots, IsOffered}
use Rattle.bx_dots.specs.Places.{moved_dot}

-- the dots of the form that stands on a tile, or none where it is empty
abbrev pub dots_in : Tiles → Option ℕ → List Dot
dots_in lib None = []
dots_in lib (Some form) = form_dots lib form

-- every form of the grid is offered
abbrev pub AreOffered : Tiles → FormGrid → Type 0
AreOffered lib g = (t form : ℕ) → IsTile g.ratio t → form_at g t ≡ Some form → IsOffered lib form

-- the dot is one of a tile's
pub record IsDotOf (lib : Tiles) (g : FormGrid) (dot : Dot) : Type 0 where
  pub tile : ℕ
  pub inside : IsTile g.ratio tile
  pub own : Dot
  pub has : Contains (dots_in lib (form_at g tile)) own
  pub is : dot ≡ moved_dot lib g.ratio tile own

-- the list has exactly the dots of the grid
abbrev pub AreDotsOf : Tiles → FormGrid → List Dot → Type 0
AreDotsOf lib g dots = (dot : Dot) → Contains dots dot ↔ IsDotOf lib g dot

-- the dot stands where one of a grid of these sides may, whatever the size of the tiles
pub record IsNear (r : Ratio) (dot : Dot) : Type 0 where
  pub column : dot.n < (r.w + 1) * 256
  pub row : dot.m < r.h * 256
  pub atom : dot.l < 2

-- the dots of a tile, and those of all tiles, tile by tile
abbrev pub tile_dots : Tiles → FormGrid → ℕ → List Dot
tile_dots lib g t = map (moved_dot lib g.ratio t) (dots_in lib (form_at g t))

abbrev pub dots_below : Tiles → FormGrid → ℕ → List Dot
dots_below lib g n = flat_map (tile_dots lib g) (range_with_len 0 n)

abbrev pub grid_dots : Tiles → FormGrid → List Dot
grid_dots lib g = dots_below lib g (tile_count g.ratio)
