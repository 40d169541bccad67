-- A list of numbers that is linked both ways in two lists: at each number stands the one behind it, and the one
-- before it. The number 0 closes it to a ring: it stands before the first and behind the last.
use Rattle.std.specs.Prelude.{◌==◌, ◌≡◌, ◌<◌, ◌+◌, ◌-◌, ℕ, zero, suc, if◌then◌else◌, List, [], ◌∷◌, length, slice_index}
use Rattle.std.specs.List.{AllByRecursion}
use Rattle.bx_logic.specs.Lists.{AreDistinct}

-- the first of the list, and 0 where it is empty
abbrev pub first_of : List ℕ → ℕ
first_of [] = 0
first_of (x ∷ xs) = x

-- who stands behind the number, and 0 behind the last
abbrev pub behind : ℕ → List ℕ → ℕ
behind v [] = 0
behind v (x ∷ xs) = if x == v then first_of xs else behind v xs

-- so many steps along the links, from this number on
abbrev pub walk : List ℕ → ℕ → ℕ → List ℕ
walk next at zero = []
walk next at (suc k) = slice_index next at ∷ walk next (slice_index next at) k

-- the list that the links make: a place for each of its numbers, and one for 0
abbrev pub linked_list : List ℕ → List ℕ
linked_list next = walk next 0 (length next - 1)

-- behind this number stands the list, linked both ways, and behind its last stands 0
abbrev pub IsLinked : List ℕ → List ℕ → ℕ → List ℕ → Type 0
IsLinked next previous at [] = (slice_index next at ≡ 0) × (slice_index previous 0 ≡ at)
IsLinked next previous at (x ∷ xs) = (slice_index next at ≡ x) × (slice_index previous x ≡ at) × IsLinked next previous x xs

-- linked: the links are those of this list
-- once: no number stands in it twice, and 0 doesn't stand in it
-- within, room, both: each number has a place in both lists, and beside 0 no other has one
pub record IsRing (order next previous : List ℕ) : Type 0 where
  pub linked : IsLinked next previous 0 order
  pub once : AreDistinct (0 ∷ order)
  pub within : AllByRecursion (λ v. v < length next) order
  pub room : length next ≡ length order + 1
  pub both : length previous ≡ length next
