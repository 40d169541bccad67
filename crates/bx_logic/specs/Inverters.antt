-- Three nets of one input and one output: the input itself, its inverse, and the inverse of that.
use Rattle.std.specs.Prelude.{ℕ, List, [], ◌∷◌, codes}
use Rattle.bx_logic.specs.declared.op.Op.TheVariants.{Not}
use Rattle.bx_logic.specs.declared.driver.Driver.{Driver}
use Rattle.bx_logic.specs.declared.driver.Driver.TheVariants.{Input, Gate}
use Rattle.bx_logic.specs.Nets.{Netlist, netlist}

-- a net with an input a, net 0, and an output y that has this net
abbrev from_a_to_y : ℕ → List Driver → Netlist
from_a_to_y net gates = netlist (codes "m") (codes "a" ∷ []) ((codes "y", net) ∷ []) (Input 0 ∷ gates)

abbrev pub wire : Netlist
wire = from_a_to_y 0 []

abbrev pub inverter : Netlist
inverter = from_a_to_y 1 (Gate Not (0 ∷ []) ∷ [])

abbrev pub two_inverters : Netlist
two_inverters = from_a_to_y 2 (Gate Not (0 ∷ []) ∷ Gate Not (1 ∷ []) ∷ [])
