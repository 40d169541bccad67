-- Nets in an order in which each reads earlier ones alone.
use Rattle.std.specs.Prelude.{◌≡◌, ℕ, ◌<◌, ◌≤◌, List, length, All}
use Rattle.bx_logic.specs.declared.driver.Driver.{Driver}
use Rattle.bx_logic.specs.declared.driver.Driver.TheVariants.{Input, Constant, Gate}
use Rattle.bx_logic.specs.Nets.{HasArity, driver_at}

-- a driver that may have this number: the inputs come first, in their order, and a gate reads nets of
-- smaller numbers
abbrev pub MayStandAt : ℕ → ℕ → Driver → Type 0
MayStandAt inputs n (Input i) = (n < inputs) × (i ≡ n)
MayStandAt inputs n (Constant b) = inputs ≤ n
MayStandAt inputs n (Gate op args) = (inputs ≤ n) × HasArity op args × All (λ m. m < n) args

pub record IsAscending (inputs : ℕ) (drivers : List Driver) : Type 0 where
  pub inputs_within : inputs ≤ length drivers
  pub each : (n : ℕ) → n < length drivers → MayStandAt inputs n (driver_at drivers n)
