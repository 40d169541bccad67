-- The decision queue: an order of the variables, and which of them are taken.
use Rattle.std.specs.Prelude.{◌==◌, ℕ, ◌-◌, ◌≤◌, Bool, false, not, if◌then◌else◌, List, [], ◌∷◌, length, Option, find, Contains, slice_index_or}
use Rattle.bx_logic.specs.Lists.{AreDistinct}

-- order: the variables, first that which is looked at first
-- taken: for each variable, from 1 on, whether it is taken
pub record Queue : Type 0 where
  pub order : List ℕ
  pub taken : List Bool

-- the number is that of one of so many variables
abbrev pub IsVariable : ℕ → ℕ → Type 0
IsVariable vars v = (1 ≤ v) × (v ≤ vars)

-- each variable stands in the order, once, and nothing else does
pub record IsQueue (q : Queue) : Type 0 where
  pub within : (v : ℕ) → Contains q.order v → IsVariable (length q.taken) v
  pub all : (v : ℕ) → IsVariable (length q.taken) v → Contains q.order v
  pub once : AreDistinct q.order

abbrev pub is_taken : Queue → ℕ → Bool
is_taken q v = slice_index_or q.taken (v - 1) false

-- the first in the order that isn't taken
abbrev pub first_free : Queue → Option ℕ
first_free q = find (λ v. not (is_taken q v)) q.order

-- the list but for where the item stands first in it
abbrev pub without : ℕ → List ℕ → List ℕ
without v [] = []
without v (x ∷ xs) = if x == v then xs else x ∷ without v xs

abbrev pub moved_to_front : ℕ → List ℕ → List ℕ
moved_to_front v order = v ∷ without v order
