-- Nets that depend on themselves.
use Rattle.std.specs.Prelude.{ℕ, ◌<◌, ◌≤◌, List, length, slice_index}
use Rattle.bx_logic.specs.declared.driver.Driver.{Driver}
use Rattle.bx_logic.specs.Nets.{Reads, DependsOn}

-- each net reads nets of the list
abbrev pub ReadsNetsOnly : List Driver → Type 0
ReadsNetsOnly drivers = (n m : ℕ) → Reads drivers n m → m < length drivers

-- the net depends on itself, and none of a smaller number does
pub record IsLeastOnCycle (drivers : List Driver) (n : ℕ) : Type 0 where
  pub cyclic : DependsOn drivers n n
  pub least : (m : ℕ) → m < n → DependsOn drivers m m → ⊥

-- no net reads one of a greater rank
abbrev pub NeverRises : List Driver → List ℕ → Type 0
NeverRises drivers ranks = (n m : ℕ) → Reads drivers n m → slice_index ranks m ≤ slice_index ranks n

-- the net reads nets of smaller ranks alone
abbrev pub FallsFrom : List Driver → List ℕ → ℕ → Type 0
FallsFrom drivers ranks n = (m : ℕ) → Reads drivers n m → slice_index ranks m < slice_index ranks n
