-- The two literals that a clause watches.
use Rattle.std.specs.Prelude.{◌≡◌, ◌⊎◌, ℕ, List, [], ◌∷◌, Option, Some, None, Contains, slice_get, take}
use Rattle.bx_cnf.specs.Literals.{Literal, negated}
use Rattle.bx_cnf.specs.Assignments.{IsFalse}
use Rattle.bx_watch.specs.declared.watches.Pair.{Pair}
use Rattle.bx_watch.specs.Readings.{Outlasts}

-- a literal is one of the two
abbrev pub IsOf : Pair → Literal → Type 0
IsOf pair l = (l ≡ pair.first) ⊎ (l ≡ pair.second)

-- the other one of the two, and none for a literal that isn't one of them
abbrev pub HasOther : Pair → Literal → Option Literal → Type 0
HasOther pair l None = IsOf pair l → ⊥
HasOther pair l (Some other) = ((l ≡ pair.first) × (other ≡ pair.second)) ⊎ ((l ≡ pair.second) × (other ≡ pair.first))

-- all literals of a clause but those that it watches are false
abbrev pub OthersFail : List Literal → List Literal → Pair → Type 0
OthersFail trail clause pair = (m : Literal) → Contains clause m → (IsOf pair m → ⊥) → IsFalse trail m

-- some literal of a clause is true
abbrev pub SomeHolds : List Literal → List Literal → Type 0
SomeHolds trail clause = (m : Literal) × Contains clause m × Contains trail m

-- A clause watches two of its literals, or twice its only one. Where one of them became false, all but the
-- two were false already, or one was true.
pub record IsWatching (trail clause : List Literal) (pair : Pair) : Type 0 where
  pub has : (l : Literal) → IsOf pair l → Contains clause l
  pub alone : pair.first ≡ pair.second → clause ≡ pair.first ∷ []
  pub guarded : (i : ℕ) (l : Literal) → IsOf pair l → slice_get trail i ≡ Some (negated l)
      → OthersFail (take i trail) clause pair ⊎ SomeHolds (take i trail) clause

-- the two literals in an order in which the first outlasts the second
pub record IsOrdered (trail : List Literal) (one other : Literal) (pair : Pair) : Type 0 where
  pub outlasts : Outlasts trail pair.first pair.second
  pub same : ((pair.first ≡ one) × (pair.second ≡ other)) ⊎ ((pair.first ≡ other) × (pair.second ≡ one))

-- two of these literals that outlast all others, the first also the second
pub record IsChosen (trail literals : List Literal) (pair : Pair) : Type 0 where
  pub differ : pair.first ≡ pair.second → ⊥
  pub outlasts : Outlasts trail pair.first pair.second
  pub has : (l : Literal) → IsOf pair l → Contains literals l
  pub others : (m : Literal) → Contains literals m → (IsOf pair m → ⊥) → Outlasts trail pair.second m
