-- What is read of literals and clauses under a trail.
use Rattle.std.specs.Prelude.{◌≡◌, ◌≢◌, ◌⊎◌, ℕ, ◌-◌, ◌<◌, Bool, true, false, List, [], ◌++◌, Option, Some, None, All, Contains, slice_get, slice_index, slice_index_or, length, take, option_to_list}
use Rattle.bx_cnf.specs.Literals.{Literal, negated}
use Rattle.bx_cnf.specs.Assignments.{IsFalse, IsFree, IsClauseFalse, LeavesOne, IsUnit}
use Rattle.bx_watch.specs.declared.reading.Reading.{Reading}
use Rattle.bx_watch.specs.declared.reading.Reading.TheVariants.{False, Unit, Met, Other}
use Rattle.bx_watch.specs.Watching.{IsOver, AreApart}

-- how many variables there are, and the literals that are assigned, in their order
pub record Assigned : Type 0 where
  pub vars : ℕ
  pub literals : List Literal

pub record IsTrail (t : Assigned) : Type 0 where
  pub over : All (IsOver t.vars) t.literals
  pub apart : AreApart t.literals

-- the value of a variable, none where it is free
abbrev pub value_at : List (Option Bool) → ℕ → Option Bool
value_at values var = slice_index_or values (var - 1) None

-- a variable has exactly the value that the trail gives it
pub record AreValues (vars : ℕ) (values : List (Option Bool)) (trail : List Literal) : Type 0 where
  pub each_has : length values ≡ vars
  pub forth : (l : Literal) → IsOver vars l → value_at values l.var ≡ Some l.positive → Contains trail l
  pub back : (l : Literal) → Contains trail l → value_at values l.var ≡ Some l.positive

-- a variable that is assigned has the place of its literal
pub record ArePlaces (vars : ℕ) (places : List ℕ) (trail : List Literal) : Type 0 where
  pub each_has : length places ≡ vars
  pub at : (i : ℕ) (l : Literal) → slice_get trail i ≡ Some l → slice_index places (l.var - 1) ≡ i

-- whether a literal is true, none where its variable is free
abbrev pub IsValue : List Literal → Literal → Option Bool → Type 0
IsValue trail l None = IsFree trail l
IsValue trail l (Some true) = Contains trail l
IsValue trail l (Some false) = IsFalse trail l

-- the place at which a literal became false, and the end of the trail for one that isn't false
abbrev pub IsRank : List Literal → Literal → ℕ → Type 0
IsRank trail l rank = ((rank < length trail) × (slice_get trail rank ≡ Some (negated l))) ⊎ ((rank ≡ length trail) × (IsFalse trail l → ⊥))

-- where a literal became false, if it did, the other one was false already
abbrev pub Outlasts : List Literal → Literal → Literal → Type 0
Outlasts trail l other = (i : ℕ) → slice_get trail i ≡ Some (negated l) → IsFalse (take i trail) other

-- the last literal was taken off, and none exactly where there was none
pub record TakesLast (old new : Assigned) (last : Option Literal) : Type 0 where
  pub vars_stay : new.vars ≡ old.vars
  pub split : old.literals ≡ new.literals ++ option_to_list last
  pub none : last ≡ None → old.literals ≡ []

-- two literals of the clause aren't false
abbrev pub LeavesTwo : List Literal → List Literal → Type 0
LeavesTwo trail clause = (l : Literal) × (m : Literal) × Contains clause l × Contains clause m × (l ≢ m)
    × (IsFalse trail l → ⊥) × (IsFalse trail m → ⊥)

-- a literal of the clause is true, or two of them aren't false
abbrev pub IsBlocked : List Literal → List Literal → Type 0
IsBlocked trail clause = ((l : Literal) × Contains clause l × Contains trail l) ⊎ LeavesTwo trail clause

-- none of a clause's literals, or one, or two of them aren't false; the one is free or true
abbrev pub IsRead : List Literal → List Literal → Reading → Type 0
IsRead trail clause False = IsClauseFalse trail clause
IsRead trail clause (Unit l) = IsUnit trail clause l
IsRead trail clause (Met l) = LeavesOne trail clause l × Contains trail l
IsRead trail clause Other = LeavesTwo trail clause

-- what is read of an active clause
abbrev pub is_open : Reading → Bool
is_open False = true
is_open (Unit l) = true
is_open (Met l) = false
is_open Other = false
