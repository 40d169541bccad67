-- A trail over so many variables, and what is known of it at all times.
use Rattle.std.specs.Prelude.{◌≡◌, ℕ, ◌+◌, ◌-◌, ◌^◌, ◌<◌, ◌≤◌, List, [], ◌∷◌, All, Contains, slice_index, ⊤}
use Rattle.bx_watch.specs.Watching.{IsOver, AreApart}
use Rattle.bx_search.specs.States.{Assigned, literals_of}

-- how many variables there are, and what is assigned, in the order in which it was
pub record Assignment : Type 0 where
  pub vars : ℕ
  pub entries : List Assigned

-- from this level on levels don't fall, and rise by at most one from one literal to the next
abbrev pub Climbs : ℕ → List Assigned → Type 0
Climbs low [] = ⊤
Climbs low (a ∷ trail) = (low ≤ a.level) × (a.level ≤ low + 1) × Climbs a.level trail

-- each variable is one of them and is assigned once at most, and levels climb from 0
pub record IsAssignment (t : Assignment) : Type 0 where
  pub vars : t.vars < 2 ^ 31
  pub over : All (IsOver t.vars) (literals_of t.entries)
  pub apart : AreApart (literals_of t.entries)
  pub climbs : Climbs 0 t.entries

-- the table has the level of each variable that is assigned
abbrev pub AreLevels : List ℕ → List Assigned → Type 0
AreLevels levels entries = (a : Assigned) → Contains entries a
    → slice_index levels (a.literal.var - 1) ≡ a.level
