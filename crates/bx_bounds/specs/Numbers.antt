-- How many numbers are of a sort.
use Rattle.std.specs.Prelude.{◌≡◌, ◌↔◌, ℕ, ◌<◌, List, length, Contains, Option, Some, None}
use Rattle.bx_logic.specs.Lists.{AreDistinct}

-- exactly `count` numbers are of this sort: a list has each of them once, and no other
pub record IsCount (IsOne : ℕ → Type 0) (count : ℕ) : Type 0 where
  pub numbers : List ℕ
  pub distinct : AreDistinct numbers
  pub are : (n : ℕ) → IsOne n ↔ Contains numbers n
  pub size : length numbers ≡ count

-- more than `most` numbers are of this sort
abbrev pub AreMoreThan : ℕ → (ℕ → Type 0) → Type 0
AreMoreThan most IsOne = (count : ℕ) × IsCount IsOne count × (most < count)

-- those of them that are below n
abbrev pub IsBelow : ℕ → (ℕ → Type 0) → ℕ → Type 0
IsBelow n IsOne m = (m < n) × IsOne m

-- the least number of this sort, or none where there is no such number
abbrev pub IsLeast : (ℕ → Type 0) → Option ℕ → Type 0
IsLeast IsOne None = (n : ℕ) → ¬ IsOne n
IsLeast IsOne (Some n) = IsOne n × ((m : ℕ) → m < n → ¬ IsOne m)
