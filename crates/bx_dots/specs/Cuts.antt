-- What a set of dots is cut into: the form grid in which each tile has exactly the dots of the set
-- that lie in it, or what is in the way of one. The set is given as a list of which it has the
-- dots.
use Rattle.std.specs.Prelude.{◌≡◌, ◌==◌, ◌↔◌, ◌⊎◌, ℕ, ◌+◌, ◌<◌, List, length, if◌then◌else◌, Contains, Option, Some, None, Result, Ok, Err}
use Rattle.bx_grid.specs.declared.ratio.Ratio.{Ratio}
use Rattle.bx_grid.specs.Tiles.{tile_count, IsTile, y_of}
use Rattle.bx_layout.specs.Grids.{FormGrid, form_at}
use Rattle.bx_library.specs.declared.dot.Dot.{Dot}
use Rattle.bx_library.specs.declared.group.Group.{Group}
use Rattle.bx_library.specs.declared.group.Group.TheVariants.{Inputs, Outputs, Others}
use Rattle.bx_library.specs.Dots.{IsBefore}
use Rattle.bx_library.specs.Groups.{group_of}
use Rattle.bx_library.specs.Tiles.{Tiles, IsOffered}
use Rattle.bx_dots.specs.declared.fault.CutFault.{CutFault}
use Rattle.bx_dots.specs.declared.fault.CutFault.TheVariants.{StrayDot, StrangeTile, NoMemory}
use Rattle.bx_dots.specs.Places.{moved_dot, IsStray}
use Rattle.bx_dots.specs.GridDots.{dots_in}

-- the group of forms by which a row of tiles is read: the first row by inputs, the last one by
-- outputs where it isn't the first one too, and the rows between them by the others
abbrev pub group_of_row : Ratio → ℕ → Group
group_of_row r y = if y == 0 then Inputs else (if y + 1 == r.h then Outputs else Others)

-- the list has exactly the dots of a set that lie in a tile, as a form of that tile would have them
abbrev pub AreOwn : Tiles → Ratio → List Dot → ℕ → List Dot → Type 0
AreOwn lib r dots t owns =
    (own : Dot) → Contains owns own ↔
    ((own.n < lib.width) × (own.m < lib.height) × Contains dots (moved_dot lib r t own))

-- a tile may be read as this form, or as empty
abbrev pub MayStand : Tiles → Ratio → ℕ → Option ℕ → Type 0
MayStand lib r t None = Unit {0}
MayStand lib r t (Some form) = IsOffered lib form × (group_of form ≡ group_of_row r (y_of r t))

-- the dots of a set that lie in a tile are those of this form, or there are none where it is empty
pub record ReadsAs (lib : Tiles) (r : Ratio) (dots : List Dot) (t : ℕ) (form : Option ℕ) : Type 0 where
  pub stands : MayStand lib r t form
  pub own : AreOwn lib r dots t (dots_in lib form)

abbrev pub NoneStray : Tiles → Ratio → List Dot → Type 0
NoneStray lib r dots = (dot : Dot) → Contains dots dot → IsStray lib r dot → ⊥

-- the form grid that a set of dots is cut into
pub record IsCut (lib : Tiles) (r : Ratio) (dots : List Dot) (g : FormGrid) : Type 0 where
  pub ratio : g.ratio ≡ r
  pub whole : length g.tiles ≡ tile_count r
  pub inside : NoneStray lib r dots
  pub tiles : (t : ℕ) → IsTile r t → ReadsAs lib r dots t (form_at g t)

-- the dot is the first one of the set that lies in no tile
pub record IsFirstStray (lib : Tiles) (r : Ratio) (dots : List Dot) (dot : Dot) : Type 0 where
  pub has : Contains dots dot
  pub stray : IsStray lib r dot
  pub first : (other : Dot) → Contains dots other → IsStray lib r other →
      (other ≡ dot) ⊎ IsBefore dot other

-- a tile can't be read
abbrev pub IsStrange : Tiles → Ratio → List Dot → ℕ → Type 0
IsStrange lib r dots t = (form : Option ℕ) → ReadsAs lib r dots t form → ⊥

-- every dot lies in a tile, and this is the least tile that can't be read
pub record IsFirstStrange (lib : Tiles) (r : Ratio) (dots : List Dot) (t : ℕ) : Type 0 where
  pub inside : NoneStray lib r dots
  pub tile : IsTile r t
  pub strange : IsStrange lib r dots t
  pub first : (u : ℕ) → u < t → IsStrange lib r dots u → ⊥

-- what cutting a set of dots gives: a form grid, or the first thing that is in the way of one
abbrev pub CutsTo : Tiles → Ratio → List Dot → Result FormGrid CutFault → Type 0
CutsTo lib r dots (Ok g) = IsCut lib r dots g
CutsTo lib r dots (Err (StrayDot dot)) = IsFirstStray lib r dots dot
CutsTo lib r dots (Err (StrangeTile t)) = IsFirstStrange lib r dots t
CutsTo lib r dots (Err NoMemory) = ⊥
