-- Proof logs: steps, each a clause that is added and the numbers of the clauses that it follows from.
use Rattle.std.specs.Prelude.{◌≡◌, ℕ, ◌+◌, ◌^◌, ◌<◌, List, [], ◌∷◌, length, All, ⊤}
use Rattle.bx_cnf.specs.Literals.{Literal}
use Rattle.bx_cnf.specs.Formulas.{IsClause}

-- the clause that is added, and the ids of the clauses to propagate, in order
pub record Step : Type 0 where
  pub literals : List Literal
  pub hints : List ℕ

-- steps, of which the first has this id; the ids go up by one
pub record StepList : Type 0 where
  pub first : ℕ
  pub steps : List Step

-- a step of this id: it adds a clause, and has hints, each of which names a clause before it
pub record IsStep (id : ℕ) (step : Step) : Type 0 where
  pub numbered : id < 2 ^ 32
  pub clause : IsClause 2147483647 step.literals
  pub hinted : 0 < length step.hints
  pub before : All (λ h. (0 < h) × (h < id)) step.hints

-- steps of which the first has this id
abbrev pub AreSteps : ℕ → List Step → Type 0
AreSteps id [] = ⊤
AreSteps id (s ∷ ss) = IsStep id s × AreSteps (id + 1) ss

-- the steps of these clauses and these hints
abbrev pub steps_of : List (List Literal) → List (List ℕ) → List Step
steps_of [] hints = []
steps_of (l ∷ ls) [] = []
steps_of (l ∷ ls) (h ∷ hs) = record { literals = l; hints = h } ∷ steps_of ls hs

-- what a log holds at all times
pub record IsLog (first : ℕ) (literals : List (List Literal)) (hints : List (List ℕ)) : Type 0 where
  pub same : length hints ≡ length literals
  pub steps : AreSteps first (steps_of literals hints)
