-- Which steps of a log pass, each by itself.
use Rattle.std.specs.Prelude.{◌≡◌, ℕ, ◌+◌, ◌<◌, ◌≤◌, ◌↔◌, List, [], length, take, Some, slice_get, All}
use Rattle.bx_cnf.specs.Formulas.{Formula}
use Rattle.bx_proof.specs.Steps.{Step}
use Rattle.bx_proof.specs.Accepted.{Follows, with_steps}

-- a step passes behind those before it: it is over the variables of the formula, and follows from the clauses
-- of the formula and of those steps
pub record Passes (formula : Formula) (before : List Step) (step : Step) : Type 0 where
  pub within : All (λ l. l.var ≤ formula.vars) step.literals
  pub follows : Follows (with_steps formula.clauses before) step

-- the first steps, so many, pass
abbrev pub PassUpTo : Formula → List Step → ℕ → Type 0
PassUpTo formula steps n = (k : ℕ) (step : Step) → k < n → slice_get steps k ≡ Some step → Passes formula (take k steps) step

-- all steps pass
abbrev pub AllPass : Formula → List Step → Type 0
AllPass formula steps = PassUpTo formula steps (length steps)

-- step k, counted from 0, is the first that fails
pub record IsFirstFailure (formula : Formula) (steps : List Step) (k : ℕ) : Type 0 where
  pub before : PassUpTo formula steps k
  pub step : Step
  pub stands : slice_get steps k ≡ Some step
  pub fails : Passes formula (take k steps) step → ⊥

-- steps are over variables 1 to this one
abbrev pub AreWithin : ℕ → List Step → Type 0
AreWithin vars steps = All (λ step. All (λ l. l.var ≤ vars) step.literals) steps

-- the last step, and no other, has no literals
abbrev pub IsEnded : List Step → Type 0
IsEnded steps = (k : ℕ) (step : Step) → slice_get steps k ≡ Some step → (step.literals ≡ []) ↔ (k + 1 ≡ length steps)
