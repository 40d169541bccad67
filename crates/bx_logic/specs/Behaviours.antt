-- Behaviour by ports: which values of the outputs something gives for values of its inputs, each list in
-- the order of the ports. A net has a behaviour, and so has whatever is to compute the same as a net.
use Rattle.std.specs.Prelude.{◌≡◌, ℕ, Bool, List, length}
use Rattle.bx_logic.specs.Nets.{Netlist}
use Rattle.bx_logic.specs.Values.{AreOutputValues}

-- for the values of the inputs in the first list it gives those of the outputs in the second
abbrev pub Behaviour : Type 1
Behaviour = List Bool → List Bool → Type 0

-- a net gives the values that its outputs have in its one valuation
abbrev pub net_behaviour : Netlist → Behaviour
net_behaviour net = AreOutputValues net

-- each of the two gives what the other gives
pub record SameBehaviour (one other : Behaviour) : Type 0 where
  pub forth : (bits outputs : List Bool) → one bits outputs → other bits outputs
  pub back : (bits outputs : List Bool) → other bits outputs → one bits outputs

-- these values and no others are given
pub record GivesOnly (behaviour : Behaviour) (bits outputs : List Bool) : Type 0 where
  pub gives : behaviour bits outputs
  pub only : (others : List Bool) → behaviour bits others → others ≡ outputs

-- for each value of each of so many inputs it gives one value of each of so many outputs, and it gives
-- nothing for fewer values or more
pub record IsFunction (inputs outputs : ℕ) (behaviour : Behaviour) : Type 0 where
  pub one : (bits : List Bool) → length bits ≡ inputs → (values : List Bool) × GivesOnly behaviour bits values
  pub inputs_given : (bits values : List Bool) → behaviour bits values → length bits ≡ inputs
  pub outputs_given : (bits values : List Bool) → behaviour bits values → length values ≡ outputs
