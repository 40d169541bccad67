-- A log in chunks.
use Rattle.std.specs.Prelude.{◌≡◌, ℕ, ◌+◌, ◌<◌, ◌≤◌, List, Some, length, slice_get, slice_index, take}
use Rattle.bx_cnf.specs.Formulas.{Formula}
use Rattle.bx_proof.specs.Steps.{Step}
use Rattle.bx_check.specs.Passing.{Passes}

-- numbers of which the first is 0, the last is this count, and none is above it: chunk i of what is counted goes from
-- number i to number i + 1
pub record AreBorders (chunks count : ℕ) (borders : List ℕ) : Type 0 where
  pub each : length borders ≡ chunks + 1
  pub first : slice_index borders 0 ≡ 0
  pub last : slice_index borders chunks ≡ count
  pub within : (i : ℕ) → i ≤ chunks → slice_index borders i ≤ count

-- the steps from one place to before another pass, each behind all those before it
abbrev pub PassFrom : Formula → List Step → ℕ → ℕ → Type 0
PassFrom formula steps from to =
    (k : ℕ) (step : Step) → from ≤ k → k < to → slice_get steps k ≡ Some step → Passes formula (take k steps) step

-- step k is the first from this place on that fails
pub record IsFailureFrom (formula : Formula) (steps : List Step) (from k : ℕ) : Type 0 where
  pub within : from ≤ k
  pub before : PassFrom formula steps from k
  pub step : Step
  pub stands : slice_get steps k ≡ Some step
  pub fails : Passes formula (take k steps) step → ⊥
