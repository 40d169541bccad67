-- The lists of the clauses that watch a literal.
use Rattle.std.specs.Prelude.{◌≡◌, ◌≢◌, ℕ, ◌+◌, ◌*◌, ◌-◌, ◌<◌, if◌then◌else◌, List, [], ◌∷◌, ◌++◌, Some, Contains, slice_get, slice_index_or, length}
use Rattle.bx_cnf.specs.Literals.{Literal}
use Rattle.bx_watch.specs.declared.lists.Entry.{Entry}

-- where the list of a literal stands
abbrev pub place : Literal → ℕ
place l = 2 * (l.var - 1) + (if l.positive then 0 else 1)

abbrev pub list_of : List (List Entry) → Literal → List Entry
list_of lists l = slice_index_or lists (place l) []

-- so many lists, all of them empty
pub record IsEmptyFor (count : ℕ) (lists : List (List Entry)) : Type 0 where
  pub sized : length lists ≡ count
  pub none : (l : Literal) → list_of lists l ≡ []

-- an entry was put behind those of a literal
pub record Pushes (old new : List (List Entry)) (l : Literal) (entry : Entry) : Type 0 where
  pub sized : length new ≡ length old
  pub here : list_of new l ≡ list_of old l ++ entry ∷ []
  pub others : (m : Literal) → place m ≢ place l → list_of new m ≡ list_of old m

-- the entry at a place of a literal's list was taken out, and the entries before it stand as they did
pub record Drops (old new : List (List Entry)) (l : Literal) (at : ℕ) : Type 0 where
  pub sized : length new ≡ length old
  pub shorter : length (list_of new l) + 1 ≡ length (list_of old l)
  pub before : (i : ℕ) → i < at → slice_get (list_of new l) i ≡ slice_get (list_of old l) i
  pub kept : (i : ℕ) (entry : Entry) → i ≢ at → slice_get (list_of old l) i ≡ Some entry → Contains (list_of new l) entry
  pub none_new : (entry : Entry) → Contains (list_of new l) entry → Contains (list_of old l) entry
  pub others : (m : Literal) → place m ≢ place l → list_of new m ≡ list_of old m

-- all entries of a literal were taken out
pub record Clears (old new : List (List Entry)) (l : Literal) : Type 0 where
  pub sized : length new ≡ length old
  pub here : list_of new l ≡ []
  pub others : (m : Literal) → place m ≢ place l → list_of new m ≡ list_of old m

-- a clause has an entry in the list of a literal
abbrev pub HasEntry : List (List Entry) → Literal → ℕ → Type 0
HasEntry lists l clause = (entry : Entry) × Contains (list_of lists l) entry × (entry.clause ≡ clause)
