-- What a race keeps of the workers' draws, beside the number of claims and the least index.
use Rattle.std.specs.Prelude.{◌≡◌, ◌⊎◌, ℕ, ◌+◌, ◌<◌, ◌≤◌, nat_lt, min, if◌then◌else◌, List, sum_by}
use Rattle.std.specs.List.{AllByRecursion}
use Rattle.bx_race.specs.declared.view.Draws.{Draws}
use Rattle.bx_race.specs.Draws.{times, indices}
use Rattle.bx_race.specs.Core.{times_offered}

-- how often the index stands among the numbers below k, each once
abbrev pub once_below : ℕ → ℕ → ℕ
once_below k i = if nat_lt i k then 1 else 0

-- how often the workers drew the index, and how often a number that was none
abbrev pub times_drawn : ℕ → List Draws → ℕ
times_drawn i workers = sum_by (λ d. times i (indices d)) workers

abbrev pub times_past : List Draws → ℕ
times_past workers = sum_by (λ d. d.past) workers

-- each dropped index is above the least one, and each offered one isn't below it
abbrev pub RespectsLeast : ℕ → Draws → Type 0
RespectsLeast least d = AllByRecursion (λ i. least < i) d.dropped × AllByRecursion (λ i. least ≤ i) d.offered

-- next: the number of claims
-- least: the least index that was offered, or n
pub record IsFair (n next least : ℕ) (workers : List Draws) : Type 0 where
  -- what the workers drew are the numbers below the lesser of n and next, each once
  pub once : (i : ℕ) → times_drawn i workers ≡ once_below (min n next) i
  -- each claim drew one of these, or was past them
  pub counted : next ≡ min n next + times_past workers
  pub respected : AllByRecursion (RespectsLeast least) workers
  pub offered : (least ≡ n) ⊎ (0 < times_offered least workers)
