-- What is learned from a false clause. Its variables are marked, and each marked literal of the trail is
-- treated, from the trail's end: it is replaced by the other literals of its reason, whose variables are
-- marked in turn, or it is kept.
use Rattle.std.specs.Prelude.{◌≡◌, ℕ, ◌-◌, max, nat_lt, ◌==◌, Bool, ◌&&◌, ◌||◌, if◌then◌else◌, List, [], ◌∷◌, ◌++◌, Option, Some, None, map, filter, reverse, ◌↔◌, Contains, slice_index_or, option_to_list}
use Rattle.std.specs.List.{list_any}
use Rattle.bx_cnf.specs.Literals.{Literal, negated}
use Rattle.bx_cnf.specs.Formulas.{AscendAbove}
use Rattle.bx_proof.specs.Steps.{Step}
use Rattle.bx_search.specs.States.{Assigned, current_level}

-- the variables of the clause of this number
abbrev pub variables : List (List Literal) → ℕ → List ℕ
variables clauses id = map (λ l. l.var) (slice_index_or clauses (id - 1) [])

-- the variables of a reason; a decision has none
abbrev pub reason_variables : List (List Literal) → Option ℕ → List ℕ
reason_variables clauses None = []
reason_variables clauses (Some id) = variables clauses id

abbrev pub is_marked : List ℕ → Assigned → Bool
is_marked marked a = list_any (λ var. var == a.literal.var) marked

-- a marked literal of this level is among them
abbrev pub any_marked_of : ℕ → List ℕ → List Assigned → Bool
any_marked_of level marked trail = list_any (λ a. (a.level == level) && is_marked marked a) trail

-- whether a marked literal is replaced: always where it is of level 0, and where it is of the current level
-- while a further marked literal of this level stands before it
abbrev pub is_replaced : ℕ → List ℕ → List Assigned → Assigned → Bool
is_replaced current marked before a =
    (a.level == 0) || ((a.level == current) && any_marked_of current marked before)

-- the literals that are kept, as they stand on the trail, and the reasons of those that are replaced, in
-- the order of the trail
pub record Treated : Type 0 where
  pub kept : List Assigned
  pub reasons : List ℕ

abbrev pub keeping : Assigned → Treated → Treated
keeping a t = record t { kept = a ∷ t.kept }

-- it stands behind those that are treated after it
abbrev pub replacing : Assigned → Treated → Treated
replacing a t = record t { reasons = t.reasons ++ option_to_list a.reason }

-- the walk over the literals of a trail, the last first, with the variables that are marked
abbrev pub treated : List (List Literal) → ℕ → List ℕ → List Assigned → Treated
treated clauses current marked [] = record { kept = []; reasons = [] }
treated clauses current marked (a ∷ before) =
    if is_marked marked a
    then (if is_replaced current marked before a
    then replacing a (treated clauses current (marked ++ reason_variables clauses a.reason) before)
    else keeping a (treated clauses current marked before))
    else treated clauses current marked before

-- the walk from the false clause of this number
abbrev pub treated_from : List (List Literal) → List Assigned → ℕ → Treated
treated_from clauses trail id =
    treated clauses (current_level trail) (variables clauses id) (reverse trail)

-- The step that is learned from the false clause of this number: the literals that are kept, negated and
-- ascending by variable; its hints are the reasons in the order of the trail, and then the false clause.
pub record IsLearned (clauses : List (List Literal)) (trail : List Assigned) (id : ℕ)
    (step : Step) : Type 0 where
  pub ascending : AscendAbove 0 step.literals
  pub kept : (l : Literal) → Contains step.literals l
      ↔ Contains (map (λ a. negated a.literal) (treated_from clauses trail id).kept) l
  pub hints : step.hints ≡ (treated_from clauses trail id).reasons ++ id ∷ []

-- those of a level
abbrev pub of_level : ℕ → List Assigned → List Assigned
of_level level trail = filter (λ a. a.level == level) trail

-- the highest of levels, and 0 where there is none
abbrev pub highest : List ℕ → ℕ
highest [] = 0
highest (level ∷ levels) = max level (highest levels)

-- the second-highest of levels, and 0 where there is but one
abbrev pub second_highest : List ℕ → ℕ
second_highest levels = highest (filter (λ level. nat_lt level (highest levels)) levels)
