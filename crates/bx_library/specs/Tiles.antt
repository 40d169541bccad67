-- A library as contracts see it, and what it keeps.
use Rattle.std.specs.Prelude.{◌≡◌, ℕ, ◌<◌, ◌≤◌, ◌%◌, List, [], length, slice_index_or, All}
use Rattle.bx_forms.specs.Forms.{form_count}
use Rattle.bx_library.specs.declared.dot.Dot.{Dot}
use Rattle.bx_library.specs.Dots.{IsAscending}
use Rattle.bx_library.specs.Groups.{group_of}

-- the size of a tile, and the dots of each form in the order of their numbers: none where it isn't
-- offered
pub record Tiles : Type 0 where
  pub width : ℕ
  pub height : ℕ
  pub dots : List (List Dot)

-- the dots of a form
abbrev pub form_dots : Tiles → ℕ → List Dot
form_dots tiles form = slice_index_or tiles.dots form []

abbrev pub IsOffered : Tiles → ℕ → Type 0
IsOffered tiles form = 0 < length (form_dots tiles form)

-- a width is even, since odd rows of tiles stand half a tile further right
pub record IsWidth (w : ℕ) : Type 0 where
  pub least : 2 ≤ w
  pub most : w ≤ 256
  pub even : w % 2 ≡ 0

pub record IsHeight (h : ℕ) : Type 0 where
  pub least : 1 ≤ h
  pub most : h ≤ 256

-- a dot lies in a tile of this size
pub record IsInside (w h : ℕ) (dot : Dot) : Type 0 where
  pub n : dot.n < w
  pub m : dot.m < h
  pub l : dot.l < 2

-- what a library keeps
pub record IsLibrary (tiles : Tiles) : Type 0 where
  pub width : IsWidth tiles.width
  pub height : IsHeight tiles.height
  pub count : length tiles.dots ≡ form_count
  -- each form has at most 1,024 dots, each of them inside the tile, and none twice
  pub few : (form : ℕ) → length (form_dots tiles form) ≤ 1024
  pub inside : (form : ℕ) → All (IsInside tiles.width tiles.height) (form_dots tiles form)
  pub ascending : (form : ℕ) → IsAscending (form_dots tiles form)
  -- two forms of one group that are offered have different dots
  pub apart : (f g : ℕ) → f < g → IsOffered tiles f → group_of f ≡ group_of g →
      form_dots tiles f ≡ form_dots tiles g → ⊥
