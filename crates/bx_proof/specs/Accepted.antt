-- Which proof logs are accepted.
use Rattle.std.specs.Prelude.{◌≡◌, ℕ, ◌+◌, ◌-◌, ◌<◌, ◌≤◌, ◌↔◌, ◌⊎◌, List, [], ◌∷◌, ◌++◌, length, take, map, Some, slice_get, All}
use Rattle.bx_cnf.specs.Literals.{Literal, negated}
use Rattle.bx_cnf.specs.Formulas.{Formula}
use Rattle.bx_cnf.specs.Assignments.{IsClauseFalse, LeavesOne}
use Rattle.bx_proof.specs.Steps.{Step, StepList}

-- Hints lead from literals that are taken to be true to a false clause: each names a clause, the last
-- one that is false, and each other one that leaves one literal, which is then taken to be true as well.
abbrev pub LeadsToFalse : List (List Literal) → List Literal → List ℕ → Type 0
LeadsToFalse clauses trues [] = ⊥
LeadsToFalse clauses trues (hint ∷ hints) =
    (clause : List Literal) × (0 < hint) × (slice_get clauses (hint - 1) ≡ Some clause)
    × ((IsClauseFalse trues clause × (hints ≡ [])) ⊎ ((l : Literal) × LeavesOne trues clause l × LeadsToFalse clauses (trues ++ l ∷ []) hints))

-- a step follows from clauses: from the negations of its literals its hints lead to a false clause
abbrev pub Follows : List (List Literal) → Step → Type 0
Follows clauses step = LeadsToFalse clauses (map negated step.literals) step.hints

-- clauses, and behind them those of steps
abbrev pub with_steps : List (List Literal) → List Step → List (List Literal)
with_steps clauses steps = clauses ++ map (λ step. step.literals) steps

-- each step follows from these clauses and those of the steps before it
abbrev pub EachFollows : List (List Literal) → List Step → Type 0
EachFollows clauses steps = (k : ℕ) (step : Step) → slice_get steps k ≡ Some step → Follows (with_steps clauses (take k steps)) step

-- steps are over the variables of a formula, and the last, and no other, has no literals
pub record AreShaped (vars : ℕ) (steps : List Step) : Type 0 where
  pub within : All (λ step. All (λ l. l.var ≤ vars) step.literals) steps
  pub ended : (k : ℕ) (step : Step) → slice_get steps k ≡ Some step → (step.literals ≡ []) ↔ (k + 1 ≡ length steps)

-- a log is accepted for a formula
pub record IsAccepted (formula : Formula) (log : StepList) : Type 0 where
  pub some : 0 < length log.steps
  pub numbered : log.first ≡ length formula.clauses + 1
  pub shaped : AreShaped formula.vars log.steps
  pub follows : EachFollows formula.clauses log.steps
