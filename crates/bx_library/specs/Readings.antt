-- What bytes give: a library, or their first fault.
use Rattle.std.specs.Prelude.{◌≡◌, ◌⊎◌, ℕ, List, length, Result, Ok, Err}
use Rattle.serde_json.specs.Data.{Data}
use Rattle.bx_forms.specs.Forms.{form_count}
use Rattle.bx_library.specs.declared.fault.LibraryFault.{LibraryFault}
use Rattle.bx_library.specs.declared.fault.LibraryFault.TheVariants.{NotJson}
use Rattle.bx_library.specs.Dots.{HaveSameDots, IsAscending}
use Rattle.bx_library.specs.Faults.{IsFree, IsFirstFault}
use Rattle.bx_library.specs.Tiles.{Tiles, form_dots}
use Rattle.bx_library.specs.Values.{Holds, width, height, forms, listed_dots}

-- the library of a JSON value in which nothing is wrong: the dots that are listed for each form, in
-- order
pub record IsLibraryOf (value : Data) (tiles : Tiles) : Type 0 where
  pub free : IsFree (IsFirstFault value)
  pub width : tiles.width ≡ width value
  pub height : tiles.height ≡ height value
  pub count : length tiles.dots ≡ form_count
  pub same : (form : ℕ) → HaveSameDots (listed_dots (forms value) form) (form_dots tiles form)
  pub ascending : (form : ℕ) → IsAscending (form_dots tiles form)

-- what a JSON value gives
abbrev pub Gives : Data → Result Tiles LibraryFault → Type 0
Gives value (Ok tiles) = IsLibraryOf value tiles
Gives value (Err fault) = IsFirstFault value fault

-- what bytes give: that they are no JSON, or what the value gives that they hold
abbrev pub Reads : List ℕ → Result Tiles LibraryFault → Type 0
Reads bytes r =
    (((value : Data) → Holds bytes value → ⊥) × (r ≡ Err NotJson)) ⊎
    ((value : Data) × Holds bytes value × Gives value r)
