-- What each variable says of a layout, and so the bits of a layout.
use Rattle.std.specs.Prelude.{◌≡◌, ◌↔◌, ℕ, ◌<◌, Bool, true, List, length, Some, IsSome}
use Rattle.bx_cnf.specs.Literals.{value_of}
use Rattle.bx_layout.specs.declared.layout.Layout.{Layout}
use Rattle.bx_layout.specs.Layouts.{Stands, edge_on}
use Rattle.bx_network.specs.Networks.{Network}
use Rattle.bx_encode.specs.Variables.{IsVariable, variable_count, number}
use Rattle.bx_encode.specs.declared.variable.Variable.{Variable}
use Rattle.bx_encode.specs.declared.variable.Variable.TheVariants.{NodeOn, Taken, Used, EdgeOn}

abbrev pub Holds : Layout → Variable → Type 0
Holds L (NodeOn v t) = Stands L v t
Holds L (Taken t) = (v : ℕ) × Stands L v t
Holds L (Used b) = IsSome (edge_on L b)
Holds L (EdgeOn e b) = edge_on L b ≡ Some e

-- one bit for each variable: whether what it says holds
pub record AreBitsOf (N : Network) (L : Layout) (bits : List Bool) : Type 0 where
  pub all : length bits ≡ variable_count N L.ratio
  pub each : (x : Variable) → IsVariable N L.ratio x → (value_of bits (number N L.ratio x) ≡ true) ↔ Holds L x

-- Of the bits of a layout those are set that speak of the first nodes and the first borders alone.
abbrev pub HoldsOf : Layout → ℕ → ℕ → Variable → Type 0
HoldsOf L nodes borders (NodeOn v t) = (v < nodes) × Stands L v t
HoldsOf L nodes borders (Taken t) = (v : ℕ) × (v < nodes) × Stands L v t
HoldsOf L nodes borders (Used b) = (b < borders) × IsSome (edge_on L b)
HoldsOf L nodes borders (EdgeOn e b) = (b < borders) × (edge_on L b ≡ Some e)

pub record AreBitsSoFar (N : Network) (L : Layout) (nodes borders : ℕ) (bits : List Bool) : Type 0 where
  pub all : length bits ≡ variable_count N L.ratio
  pub each : (x : Variable) → IsVariable N L.ratio x → (value_of bits (number N L.ratio x) ≡ true) ↔ HoldsOf L nodes borders x
