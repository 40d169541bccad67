-- The values of a net's nets for given values of its inputs.
use Rattle.std.specs.Prelude.{◌≡◌, ℕ, ◌<◌, Bool, false, List, length, map, slice_index_or}
use Rattle.bx_logic.specs.declared.driver.Driver.{Driver}
use Rattle.bx_logic.specs.declared.driver.Driver.TheVariants.{Input, Constant, Gate}
use Rattle.bx_logic.specs.Op.{op_value}
use Rattle.bx_logic.specs.Nets.{Netlist, driver_at, output_nets}

-- the value with this number
abbrev pub value_of : List Bool → ℕ → Bool
value_of values n = slice_index_or values n false

-- what a driver gives, for the values of the inputs and of the nets
abbrev pub driver_value : List Bool → (ℕ → Bool) → Driver → Bool
driver_value bits values (Input i) = value_of bits i
driver_value bits values (Constant b) = b
driver_value bits values (Gate op args) = op_value op (map values args)

-- each net has the value that its driver gives
pub record IsNetValuation (drivers : List Driver) (bits values : List Bool) : Type 0 where
  pub whole : length values ≡ length drivers
  pub each : (n : ℕ) → n < length drivers → value_of values n ≡ driver_value bits (value_of values) (driver_at drivers n)

-- there is one valuation, and no other
pub record IsOnlyNetValuation (drivers : List Driver) (bits values : List Bool) : Type 0 where
  pub is : IsNetValuation drivers bits values
  pub only : (others : List Bool) → IsNetValuation drivers bits others → others ≡ values

-- the values of the outputs, in order, where the nets have these values
abbrev pub output_values : Netlist → List Bool → List Bool
output_values net values = map (value_of values) (output_nets net)

-- there is a value for each input, and each output has the value of its net in the one valuation
pub record AreOutputValues (net : Netlist) (bits outputs : List Bool) : Type 0 where
  pub inputs : length bits ≡ length net.inputs
  pub values : List Bool
  pub valuation : IsOnlyNetValuation net.drivers bits values
  pub read : outputs ≡ output_values net values
