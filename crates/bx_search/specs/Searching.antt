-- The search: what an event makes of a state, and how the search ends.
use Rattle.std.specs.Prelude.{◌≡◌, ◌≢◌, ℕ, zero, suc, ◌+◌, ◌-◌, ◌*◌, ◌%◌, ◌^◌, ◌<◌, ◌≤◌, nat_le, ◌==◌, if◌then◌else◌, List, [], ◌∷◌, ◌++◌, Some, None, false, map, filter, length, slice_set, slice_index_or}
use Rattle.bx_cnf.specs.Literals.{Literal}
use Rattle.bx_cnf.specs.Formulas.{Formula}
use Rattle.bx_proof.specs.Steps.{Step}
use Rattle.bx_queue.specs.Queue.{moved_to_front}
use Rattle.bx_watch.specs.Watching.{IsLeastActive, NoneActive}
use Rattle.bx_watch.specs.declared.active.Active.TheVariants.{Unit, False}
use Rattle.bx_search.specs.States.{Assigned, State, start, clauses_of, literals_of, watch_of, current_level, first_free, values}
use Rattle.bx_search.specs.Learning.{IsLearned, treated_from, second_highest}
use Rattle.bx_search.specs.declared.outcome.Outcome.{Outcome}
use Rattle.bx_search.specs.declared.outcome.Outcome.TheVariants.{Sat, Unsat, Undecided, Stopped}

-- a unit clause gives its literal the current level, and its variable the phase
abbrev pub propagated : State → ℕ → Literal → State
propagated s id l = record s {
  trail = s.trail ++ record { literal = l; level = current_level s.trail; reason = Some id } ∷ [];
  phases = slice_set s.phases (l.var - 1) l.positive;
}

-- a decision gives a variable its phase, one level higher
abbrev pub decided : State → ℕ → State
decided s var = record s {
  trail = s.trail ++ record {
    literal = record { var = var; positive = slice_index_or s.phases (var - 1) false };
    level = current_level s.trail + 1;
    reason = None;
  } ∷ [];
}

-- what stands on the trail up to a level
abbrev pub up_to : ℕ → List Assigned → List Assigned
up_to level trail = filter (λ a. nat_le a.level level) trail

-- the variables of literals, moved to the front one after the other
abbrev pub moved_in_turn : List Literal → List ℕ → List ℕ
moved_in_turn [] queue = queue
moved_in_turn (l ∷ literals) queue = moved_in_turn literals (moved_to_front l.var queue)

-- The level to go back to when so many clauses were learned, the last with literals of these levels: 0 at each
-- 64th of them, and otherwise the second-highest.
abbrev pub jump_level : ℕ → List ℕ → ℕ
jump_level count levels = if (count % 64) == 0 then 0 else second_highest levels

-- the levels of the literals that are kept from the false clause of this number
abbrev pub levels_from : List (List Literal) → List Assigned → ℕ → List ℕ
levels_from clauses trail id = map (λ a. a.level) (treated_from clauses trail id).kept

-- what a step costs: its literals and its hints
abbrev pub cost : Step → ℕ
cost step = length step.literals + length step.hints

-- What a search over so many variables costs at most: there are 3 ^ vars clauses over them, and a step has a
-- literal for each at most, and one hint more.
abbrev pub enough : ℕ → ℕ
enough vars = 3 ^ vars * (2 * vars + 1)

-- a step is added, from the false clause of this number
abbrev pub learned : Formula → State → ℕ → Step → State
learned formula s id step = record {
  trail = up_to
      (jump_level (length s.steps + 1) (levels_from (clauses_of formula s) s.trail id)) s.trail;
  queue = moved_in_turn step.literals s.queue;
  phases = s.phases;
  steps = s.steps ++ step ∷ [];
  spent = s.spent + cost step;
}

-- the least-numbered active clause is false, and this step is learned from it
pub record IsConflict (formula : Formula) (s : State) (id : ℕ) (step : Step) : Type 0 where
  pub least : IsLeastActive (watch_of formula s) (False id)
  pub learned : IsLearned (clauses_of formula s) s.trail id step

-- no clause is active
abbrev pub IsQuiet : Formula → State → Type 0
IsQuiet formula s = NoneActive (literals_of s.trail) (clauses_of formula s)

-- An event of the search: a unit clause, a decision, or a clause that is learned within the budget.
pub data Goes (formula : Formula) (budget : ℕ) (s t : State) : Type 0 where
  Propagates : (id : ℕ) (l : Literal) → IsLeastActive (watch_of formula s) (Unit id l)
      → t ≡ propagated s id l → Goes formula budget s t
  Decides : (var : ℕ) → IsQuiet formula s → first_free s ≡ Some var → t ≡ decided s var
      → Goes formula budget s t
  Learns : (id : ℕ) (step : Step) → IsConflict formula s id step → s.spent + cost step ≤ budget
      → step.literals ≢ [] → t ≡ learned formula s id step → Goes formula budget s t

-- The end of the search in a state: all variables have values, or the empty clause is learned within the
-- budget, or a step would pass the budget.
abbrev pub Ends : Formula → ℕ → State → Outcome → Type 0
Ends formula budget s (Sat bits) = IsQuiet formula s × (first_free s ≡ None)
    × (bits ≡ values formula.vars s.trail)
Ends formula budget s (Unsat log) = (id : ℕ) × (step : Step) × IsConflict formula s id step
    × (s.spent + cost step ≤ budget) × (step.literals ≡ [])
    × (log ≡ record { first = length formula.clauses + 1; steps = s.steps ++ step ∷ [] })
Ends formula budget s (Undecided spent) = (id : ℕ) × (step : Step) × IsConflict formula s id step
    × (budget < s.spent + cost step) × (spent ≡ s.spent)
Ends formula budget s Stopped = ⊥

-- the state after so many events
abbrev pub After : Formula → ℕ → ℕ → State → Type 0
After formula budget zero s = s ≡ start formula.vars
After formula budget (suc events) s = (before : State) × After formula budget events before
    × Goes formula budget before s

-- the search ends so, after events that learn so many clauses that aren't empty
pub record IsSearch (formula : Formula) (budget : ℕ) (outcome : Outcome) (asked : ℕ) : Type 0 where
  pub events : ℕ
  pub last : State
  pub after : After formula budget events last
  pub ends : Ends formula budget last outcome
  pub count : asked ≡ length last.steps
