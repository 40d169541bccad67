-- What the solver's own contracts say: the states of the search that its parts stand for.
use Rattle.std.specs.Prelude.{◌≡◌, ◌≢◌, ℕ, ◌+◌, ◌<◌, ◌≤◌, Bool, not, List, [], ◌∷◌, ◌++◌, Option, Some, None, length, count_by}
use Rattle.bx_cnf.specs.Formulas.{Formula, IsFormula, AllTrue}
use Rattle.bx_proof.specs.Steps.{Step, StepList}
use Rattle.bx_proof.specs.Accepted.{IsAccepted}
use Rattle.bx_queue.specs.Queue.{IsQueue, IsVariable, is_taken}
use Rattle.bx_watch.specs.Watching.{IsLeastActive}
use Rattle.bx_watch.specs.declared.active.Active.TheVariants.{False}
use Rattle.bx_search.specs.States.{Assigned, State, clauses_of, watch_of, is_assigned, first_free, values}
use Rattle.bx_search.specs.Learning.{IsLearned}
use Rattle.bx_search.specs.Searching.{After, Goes, Ends, IsQuiet, IsConflict, IsSearch, learned, levels_from, cost}
use Rattle.bx_search.specs.Marks.{unmarked as no_marks}
use Rattle.bx_search.specs.declared.outcome.Outcome.{Outcome}
use Rattle.bx_search.specs.declared.outcome.Outcome.TheVariants.{Sat, Unsat, Undecided, Stopped}
use Rattle.bx_search.specs.declared.solver.Solver.{Solver}
use Rattle.bx_search.specs.declared.solver.Next.{Next}
use Rattle.bx_search.specs.declared.solver.Next.TheVariants.{Assigned as Grows, Conflict, Complete}
use Rattle.bx_search.specs.declared.search.Halt.{Halt}
use Rattle.bx_search.specs.declared.search.Halt.TheVariants.{Complete as All_valued, Beyond as Passed, Empty as Refuted, Unwanted}
use Rattle.bx_search.specs.declared.search.Turn.{Turn}
use Rattle.bx_search.specs.declared.search.Turn.TheVariants.{Learned as More, Complete as Whole, Beyond as Over, Empty as None_left}
use Rattle.bx_search.specs.declared.learn.Learned.{Learned}
use Rattle.bx_search.specs.declared.learn.Learned.TheVariants.{Beyond, Empty, Clause}

-- the search reaches a state with this trail and these steps
pub record Reaches (formula : Formula) (trail : List Assigned) (steps : List Step) : Type 0 where
  pub budget : ℕ
  pub events : ℕ
  pub state : State
  pub after : After formula budget events state
  pub trail_is : state.trail ≡ trail
  pub steps_are : state.steps ≡ steps

-- the search reaches this state within the budget
abbrev pub IsReached : Formula → ℕ → State → Type 0
IsReached formula budget s = (events : ℕ) × After formula budget events s

-- the state that a solver's parts make up
abbrev pub state_of : Solver → State
state_of s = record {
  trail = s.trail.entries;
  queue = s.queue.order;
  phases = s.phases.items;
  steps = s.steps.steps;
  spent = s.spent;
}

-- the variables that are taken are those that are assigned
pub record AreTaken (vars : ℕ) (taken : List Bool) (trail : List Assigned) : Type 0 where
  pub each_has : length taken ≡ vars
  pub same : (v : ℕ) → IsVariable vars v
      → is_taken (record { order = []; taken = taken }) v ≡ is_assigned trail v
  pub count : length trail + count_by not taken ≡ vars

-- the parts of a solver agree
pub record IsSolver (s : Solver) : Type 0 where
  pub formed : IsFormula s.clauses.now
  pub watches : s.watched ≡ watch_of s.clauses.now (state_of s)
  pub vars : s.trail.vars ≡ s.clauses.now.vars
  pub ordered : IsQueue s.queue
  pub takes : AreTaken s.clauses.now.vars s.queue.taken s.trail.entries
  pub phased : length s.phases.items ≡ s.clauses.now.vars
  pub numbered : length s.clauses.now.clauses < 4294967295
      → s.steps.first ≡ length s.clauses.now.clauses + 1
  pub unmarked : s.analysis.marks ≡ no_marks s.clauses.now.vars

-- a solver, which is one still, has come to a state
pub record Becomes (old new : Solver) (s : State) : Type 0 where
  pub agrees : IsSolver new
  pub formula : new.clauses.now ≡ old.clauses.now
  pub state : state_of new ≡ s

-- what a solver does next: an event that assigns a literal, or nothing where a clause is false or all
-- variables have values
abbrev pub GoesTo : Solver → Solver → Next → Type 0
GoesTo old new Grows = (s : State) × Becomes old new s × (s.steps ≡ (state_of old).steps)
    × (s.spent ≡ (state_of old).spent)
    × (length s.trail ≡ length (state_of old).trail + 1)
    × ((budget : ℕ) → Goes old.clauses.now budget (state_of old) s)
GoesTo old new (Conflict id) = Becomes old new (state_of old)
    × IsLeastActive (watch_of old.clauses.now (state_of old)) (False id)
GoesTo old new Complete = Becomes old new (state_of old) × IsQuiet old.clauses.now (state_of old)
    × (first_free (state_of old) ≡ None)

-- what conflict analysis learned last
abbrev pub step_of : Solver → Step
step_of s = record { literals = s.analysis.literals.items; hints = s.analysis.hints.items }

-- a step was learned from the clause of this number, and nothing else has changed
pub record Analyzes (old new : Solver) (id : ℕ) : Type 0 where
  pub becomes : Becomes old new (state_of old)
  pub learned : IsLearned (clauses_of old.clauses.now (state_of old)) old.trail.entries id
      (step_of new)
  pub levels : new.analysis.levels.items
      ≡ levels_from (clauses_of old.clauses.now (state_of old)) old.trail.entries id

-- What becomes of the false clause of this number: the step that is learned from it would pass the budget,
-- or it is the empty one and the last of the log, or the search has learned it.
abbrev pub LearnsTo : ℕ → ℕ → Solver → Solver → Learned → Type 0
LearnsTo budget id old new Beyond = Becomes old new (state_of old)
    × ((step : Step) × IsConflict old.clauses.now (state_of old) id step
    × (budget < old.spent + cost step))
LearnsTo budget id old new Empty = (step : Step) × IsConflict old.clauses.now (state_of old) id step
    × (old.spent + cost step ≤ budget) × (step.literals ≡ [])
    × (new.steps ≡ record {
      first = length old.clauses.now.clauses + 1;
      steps = old.steps.steps ++ step ∷ [];
    })
LearnsTo budget id old new Clause = (step : Step)
    × IsConflict old.clauses.now (state_of old) id step × (old.spent + cost step ≤ budget)
    × (step.literals ≢ [])
    × Becomes old new (learned old.clauses.now (state_of old) id step)

-- a solver has gone on, and has learned nothing more
pub record Moves (old new : Solver) : Type 0 where
  pub agrees : IsSolver new
  pub formula : new.clauses.now ≡ old.clauses.now
  pub steps : new.steps.steps ≡ old.steps.steps
  pub spent : new.spent ≡ old.spent
  pub reached : (budget : ℕ) → IsReached old.clauses.now budget (state_of old)
      → IsReached old.clauses.now budget (state_of new)

-- the clause of this number is false, or all variables have values
abbrev pub Finds : Solver → Option ℕ → Type 0
Finds s (Some id) = IsLeastActive (watch_of s.clauses.now (state_of s)) (False id)
Finds s None = IsQuiet s.clauses.now (state_of s) × (first_free (state_of s) ≡ None)

-- the search ends so, in a state with as many steps as the solver has
abbrev pub EndsSo : ℕ → Solver → Outcome → Type 0
EndsSo budget old end = (s : State) × IsReached old.clauses.now budget s
    × Ends old.clauses.now budget s end × (length s.steps ≡ length old.steps.steps)

-- a conflict later a step was learned, or the search has ended
abbrev pub TurnsTo : ℕ → Solver → Solver → Turn → Type 0
TurnsTo budget old new More = IsSolver new × (new.clauses.now ≡ old.clauses.now)
    × IsReached old.clauses.now budget (state_of new)
    × (length new.steps.steps ≡ length old.steps.steps + 1) × (old.spent < new.spent)
    × (new.spent ≤ budget)
TurnsTo budget old new Whole = (new.trail.vars ≡ old.clauses.now.vars)
    × EndsSo budget old (Sat (values old.clauses.now.vars new.trail.entries))
TurnsTo budget old new Over = EndsSo budget old (Undecided new.spent)
TurnsTo budget old new None_left = EndsSo budget old (Unsat new.steps)

-- what a solver that goes no further answers
abbrev pub outcome_of : Solver → Halt → Outcome
outcome_of s All_valued = Sat (values s.trail.vars s.trail.entries)
outcome_of s Passed = Undecided s.spent
outcome_of s Refuted = Unsat s.steps
outcome_of s Unwanted = Stopped

-- An answer is the search's end, or its pulse stopped it. The pulse was asked once for each step, and at most
-- as often as the search learns.
pub record IsAnswer (formula : Formula) (budget : ℕ) (end : Outcome)
    (asked_first asked stops_first stops : ℕ) : Type 0 where
  pub ended : end ≢ Stopped → (n : ℕ) × IsSearch formula budget end n × (asked ≡ asked_first + n)
  pub not_stopped : end ≢ Stopped → stops ≡ stops_first
  pub stopped : end ≡ Stopped → stops ≡ stops_first + 1
  pub some : end ≡ Stopped → asked_first + 1 ≤ asked
  pub accepted : (log : StepList) → end ≡ Unsat log → IsAccepted formula log
  pub solved : (bits : List Bool) → end ≡ Sat bits
      → (length bits ≡ formula.vars) × AllTrue bits formula.clauses
