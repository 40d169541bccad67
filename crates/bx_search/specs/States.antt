-- The state of a search: what is assigned, the order of the decisions, and what was learned.
use Rattle.std.specs.Prelude.{ℕ, ◌==◌, Bool, false, ◌&&◌, List, [], ◌∷◌, Option, map, replicate, find, not}
use Rattle.std.specs.List.{list_any, range_with_len}
use Rattle.bx_cnf.specs.Literals.{Literal}
use Rattle.bx_cnf.specs.Formulas.{Formula}
use Rattle.bx_proof.specs.Steps.{Step}
use Rattle.bx_proof.specs.Accepted.{with_steps}
use Rattle.bx_watch.specs.Watching.{Watch}

-- a literal that is assigned, its level, and the number of the clause that is its reason, none of a decision
pub record Assigned : Type 0 where
  pub literal : Literal
  pub level : ℕ
  pub reason : Option ℕ

-- trail: what is assigned, in the order in which it was
-- queue: the variables, that first which is decided first
-- phases: of each variable, from 1 on, the value that a decision gives it
-- steps: what was learned
-- spent: what this cost
pub record State : Type 0 where
  pub trail : List Assigned
  pub queue : List ℕ
  pub phases : List Bool
  pub steps : List Step
  pub spent : ℕ

abbrev pub start : ℕ → State
start vars = record {
  trail = [];
  queue = range_with_len 1 vars;
  phases = replicate vars false;
  steps = [];
  spent = 0;
}

-- the clauses of a formula, and behind them what was learned
abbrev pub clauses_of : Formula → State → List (List Literal)
clauses_of formula s = with_steps formula.clauses s.steps

-- the literals of a trail
abbrev pub literals_of : List Assigned → List Literal
literals_of trail = map (λ a. a.literal) trail

-- the clauses and the trail in which the least-numbered active clause is sought
abbrev pub watch_of : Formula → State → Watch
watch_of formula s = record {
  vars = formula.vars;
  clauses = clauses_of formula s;
  trail = literals_of s.trail;
}

-- the level of the last literal, and this one where there is none
abbrev pub level_after : ℕ → List Assigned → ℕ
level_after level [] = level
level_after level (a ∷ trail) = level_after a.level trail

-- the current level: that of the last literal that is assigned, and 0 where none is
abbrev pub current_level : List Assigned → ℕ
current_level trail = level_after 0 trail

-- whether a variable is assigned
abbrev pub is_assigned : List Assigned → ℕ → Bool
is_assigned trail var = list_any (λ a. a.literal.var == var) trail

-- the first variable of the queue that is free
abbrev pub first_free : State → Option ℕ
first_free s = find (λ var. not (is_assigned s.trail var)) s.queue

-- whether a variable is true
abbrev pub is_true : List Assigned → ℕ → Bool
is_true trail var = list_any (λ a. (a.literal.var == var) && a.literal.positive) trail

-- the values of so many variables, from 1 on
abbrev pub values : ℕ → List Assigned → List Bool
values vars trail = map (is_true trail) (range_with_len 1 vars)
