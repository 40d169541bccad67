-- The variables that are marked in a conflict, and the walk over the trail, literal by literal.
use Rattle.std.specs.Prelude.{◌≡◌, ℕ, ◌+◌, ◌-◌, ◌^◌, ◌<◌, ◌≤◌, ◌==◌, nat_lt, Bool, true, false, ◌&&◌, ◌||◌, if◌then◌else◌, List, [], ◌∷◌, ◌++◌, Some, replicate, slice_set, slice_index_or, option_to_list, length, slice_get, All}
use Rattle.bx_cnf.specs.Literals.{Literal, negated}
use Rattle.bx_watch.specs.Watching.{IsOver}
use Rattle.bx_search.specs.States.{Assigned, current_level, is_assigned}
use Rattle.bx_search.specs.Trails.{Assignment}
use Rattle.bx_search.specs.Learning.{reason_variables}

-- marked: of each variable, from 1 on, whether it is marked
-- left: how many are marked
-- here: how many of these are of the current level
pub record Marking : Type 0 where
  pub marked : List Bool
  pub left : ℕ
  pub here : ℕ

-- none of so many variables is marked
abbrev pub unmarked : ℕ → Marking
unmarked vars = record { marked = replicate vars false; left = 0; here = 0 }

abbrev pub has_mark : Marking → ℕ → Bool
has_mark m var = slice_index_or m.marked (var - 1) false

abbrev pub one_if : Bool → ℕ
one_if true = 1
one_if false = 0

-- the variable is marked as well, which is of the current level or not
abbrev pub with_mark : ℕ → Bool → Marking → Marking
with_mark var here m = if has_mark m var
    then m
    else record {
      marked = slice_set m.marked (var - 1) true;
      left = m.left + 1;
      here = m.here + one_if here;
    }

-- the variable is marked no more
abbrev pub without_mark : ℕ → Bool → Marking → Marking
without_mark var here m = record {
  marked = slice_set m.marked (var - 1) false;
  left = m.left - 1;
  here = m.here - one_if here;
}

-- the level of a variable that is assigned
abbrev pub level_at : List Assigned → ℕ → ℕ
level_at [] var = 0
level_at (a ∷ trail) var = if a.literal.var == var then a.level else level_at trail var

-- these variables of the trail are marked as well
abbrev pub with_marks : List Assigned → List ℕ → Marking → Marking
with_marks trail [] m = m
with_marks trail (var ∷ vars) m =
    with_marks trail vars (with_mark var (level_at trail var == current_level trail) m)

-- what the walk has come to: the marks, the literals that are kept, negated, with their levels, and the
-- hints, the last first
pub record Walk : Type 0 where
  pub marks : Marking
  pub literals : List Literal
  pub levels : List ℕ
  pub hints : List ℕ

-- whether a marked literal is replaced
abbrev pub replaces : ℕ → Marking → Assigned → Bool
replaces current m a = (a.level == 0) || ((a.level == current) && nat_lt 1 m.here)

-- a marked literal is treated, and its variable marked no more
abbrev pub replaced : List (List Literal) → List Assigned → Assigned → Walk → Walk
replaced clauses trail a w = record w {
  marks = without_mark a.literal.var (a.level == current_level trail)
      (with_marks trail (reason_variables clauses a.reason) w.marks);
  hints = w.hints ++ option_to_list a.reason;
}

abbrev pub kept : List Assigned → Assigned → Walk → Walk
kept trail a w = record w {
  marks = without_mark a.literal.var (a.level == current_level trail) w.marks;
  literals = w.literals ++ negated a.literal ∷ [];
  levels = w.levels ++ a.level ∷ [];
}

-- the walk passes a literal
abbrev pub passed : List (List Literal) → List Assigned → Assigned → Walk → Walk
passed clauses trail a w = if has_mark w.marks a.literal.var
    then (if replaces (current_level trail) w.marks a
    then replaced clauses trail a w
    else kept trail a w)
    else w

-- A literal of the trail can be treated: where it is marked it is counted, and where it has a reason this is
-- one of the clauses, and its variables are assigned.
pub record IsTreatable (clauses : List (List Literal)) (trail : Assignment) (m : Marking)
    (a : Assigned) : Type 0 where
  pub sized : length m.marked ≡ trail.vars
  pub over : IsOver trail.vars a.literal
  pub left_small : m.left < 2 ^ 32
  pub here_small : m.here < 2 ^ 32
  pub some : has_mark m a.literal.var ≡ true → 0 < m.left
  pub some_here : has_mark m a.literal.var ≡ true → a.level ≡ current_level trail.entries
      → 0 < m.here
  pub above : (id : ℕ) → a.reason ≡ Some id → 0 < id
  pub within : (id : ℕ) → a.reason ≡ Some id → id ≤ length clauses
  pub assigned : (id : ℕ) (clause : List Literal) → a.reason ≡ Some id
      → slice_get clauses (id - 1) ≡ Some clause
      → All (λ l. is_assigned trail.entries l.var ≡ true) clause
