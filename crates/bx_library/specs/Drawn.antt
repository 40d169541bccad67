-- What the dots of forms are for those that are listed.
use Rattle.std.specs.Prelude.{ℕ, ◌≤◌, List, [], length, map, All, Vec, slice_index_or}
use Rattle.std.specs.declared.alloc.Global.{Global}
use Rattle.serde_json.specs.Data.{Data}
use Rattle.bx_library.specs.declared.dot.Dot.{Dot}
use Rattle.bx_library.specs.Dots.{IsAscending, HaveSameDots}
use Rattle.bx_library.specs.Faults.{IsFree, HasBadForm}
use Rattle.bx_library.specs.Tiles.{IsInside}
use Rattle.bx_library.specs.Values.{form_value, listed_dots}

-- the lists that vectors hold
abbrev pub lists_of : List (Vec Dot Global) → List (List Dot)
lists_of vectors = map (λ v. v.items) vectors

-- dots in order are those that are listed, and nothing is wrong with them
pub record IsDrawn (w h : ℕ) (given dots : List Dot) : Type 0 where
  pub same : HaveSameDots given dots
  pub ascending : IsAscending dots
  pub inside : All (IsInside w h) dots
  pub few : length dots ≤ 1024

-- these are the dots of each form
abbrev pub AreDrawn : ℕ → ℕ → Data → List (List Dot) → Type 0
AreDrawn w h forms all =
    (form : ℕ) → IsDrawn w h (listed_dots forms form) (slice_index_or all form [])

-- nothing is wrong with what stands under the name of any form
abbrev pub AreFine : ℕ → ℕ → Data → Type 0
AreFine w h forms = (form : ℕ) → IsFree (HasBadForm w h form (form_value forms form))
