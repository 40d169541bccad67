-- The values of a network's edges for given values of the input ports, and so its behaviour.
use Rattle.std.specs.Prelude.{◌≡◌, ℕ, Bool, List, [], ◌∷◌, length, map, slice_get, Some}
use Rattle.std.specs.List.{position_or_len, range_with_len}
use Rattle.bx_logic.specs.Values.{value_of}
use Rattle.bx_logic.specs.Behaviours.{Behaviour}
use Rattle.bx_forms.specs.declared.kind.Kind.{Kind}
use Rattle.bx_forms.specs.declared.kind.Kind.TheVariants.{Input, Output}
use Rattle.bx_forms.specs.Kinds.{operands, gives}
use Rattle.bx_network.specs.declared.node.Node.{Node}
use Rattle.bx_network.specs.declared.node.Edge.{Edge}
use Rattle.bx_network.specs.Networks.{Network, HasPort, output_count, enters_by, leaves_by}

-- the number of the edge that enters this node by this operand, and that of no edge where there is none
abbrev pub edge_into : List Edge → ℕ → ℕ → ℕ
edge_into edges v operand = position_or_len (enters_by v operand) edges

-- the number of the edge that leaves this node by this slot, and that of no edge where there is none
abbrev pub edge_out : List Edge → ℕ → ℕ → ℕ
edge_out edges v slot = position_or_len (leaves_by v slot) edges

-- what a node reads where the edges have these values, operand 0 first
abbrev pub values_into : List Edge → List Bool → ℕ → Kind → List Bool
values_into edges values v kind = map (λ operand. value_of values (edge_into edges v operand)) (range_with_len 0 (operands kind))

-- an input reads the value that is given for its port, and any other node what enters it
abbrev pub node_reads : Kind → Bool → List Bool → List Bool
node_reads Input given entering = given ∷ []
node_reads _ given entering = entering

abbrev pub operand_values : Network → List Bool → List Bool → ℕ → Node → List Bool
operand_values N bits values v node = node_reads node.kind (value_of bits node.port) (values_into N.edges values v node.kind)

-- where the input ports have these values, each edge has the value that its source gives to its slot
pub record IsValuation (N : Network) (bits values : List Bool) : Type 0 where
  pub whole : length values ≡ length N.edges
  pub each : (i : ℕ) (e : Edge) (node : Node) → slice_get N.edges i ≡ Some e → slice_get N.nodes e.source ≡ Some node → value_of values i ≡ gives node.kind (operand_values N bits values e.source node) e.slot

-- there is one valuation, and no other
pub record IsOnlyValuation (N : Network) (bits values : List Bool) : Type 0 where
  pub is : IsValuation N bits values
  pub only : (others : List Bool) → IsValuation N bits others → others ≡ values

-- of so many inputs each has a value, and each output has the value of the edge that enters its node in the
-- one valuation
pub record NetworkGives (inputs : ℕ) (N : Network) (bits outputs : List Bool) : Type 0 where
  pub given : length bits ≡ inputs
  pub values : List Bool
  pub valuation : IsOnlyValuation N bits values
  pub all : length outputs ≡ output_count N
  pub read : (v port : ℕ) → HasPort N v Output port → value_of outputs port ≡ value_of values (edge_into N.edges v 0)

-- A network's behaviour, where there are so many inputs. The ports of its input nodes are some of theirs.
abbrev pub network_behaviour : ℕ → Network → Behaviour
network_behaviour inputs N = NetworkGives inputs N
