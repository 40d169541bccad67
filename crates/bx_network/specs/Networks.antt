-- A mapped network: nodes with a kind and a port, and edges from a slot of one node to an operand of another.
use Rattle.std.specs.Prelude.{◌≡◌, ◌≢◌, ℕ, ◌<◌, ◌==◌, ◌&&◌, nat_lt, ◌⊎◌, if◌then◌else◌, Bool, true, false, List, length, filter, slice_get, Some, AllPairs}
use Rattle.std.specs.List.{AllByRecursion}
use Rattle.bx_forms.specs.declared.kind.Kind.{Kind}
use Rattle.bx_forms.specs.declared.kind.Kind.TheVariants.{Input, Output}
use Rattle.bx_forms.specs.Kinds.{operands, slots}
use Rattle.bx_network.specs.declared.node.Node.{Node}
use Rattle.bx_network.specs.declared.node.Edge.{Edge}

-- nodes and edges, each known by its place in the list
pub record Network : Type 0 where
  pub nodes : List Node
  pub edges : List Edge

-- the network of these nodes and edges
abbrev pub network_of : List Node → List Edge → Network
network_of nodes edges = record { nodes = nodes; edges = edges }

-- whether an edge leaves this node by this slot, and whether it enters it by this operand
abbrev pub leaves_by : ℕ → ℕ → Edge → Bool
leaves_by v slot e = (e.source == v) && (e.slot == slot)

abbrev pub enters_by : ℕ → ℕ → Edge → Bool
enters_by v operand e = (e.target == v) && (e.operand == operand)

-- the edges that leave this node by this slot
abbrev pub fan_out : List Edge → ℕ → ℕ → List Edge
fan_out edges v slot = filter (leaves_by v slot) edges

-- the edges that enter this node by this operand
abbrev pub fan_in : List Edge → ℕ → ℕ → List Edge
fan_in edges v operand = filter (enters_by v operand) edges

-- by source, and then by slot
abbrev pub IsBefore : Edge → Edge → Type 0
IsBefore e f = (e.source < f.source) ⊎ ((e.source ≡ f.source) × (e.slot < f.slot))

-- this node is of this kind
abbrev pub HasKind : Network → ℕ → Kind → Type 0
HasKind N v kind = (node : Node) × (slice_get N.nodes v ≡ Some node) × (node.kind ≡ kind)

-- this node is of this kind, and has this port
abbrev pub HasPort : Network → ℕ → Kind → ℕ → Type 0
HasPort N v kind port = slice_get N.nodes v ≡ Some (record { kind = kind; port = port })

-- this node has such a slot, and such an operand
abbrev pub HasSlot : Network → ℕ → ℕ → Type 0
HasSlot N v slot = (kind : Kind) × HasKind N v kind × (slot < slots kind)

abbrev pub HasOperand : Network → ℕ → ℕ → Type 0
HasOperand N v operand = (kind : Kind) × HasKind N v kind × (operand < operands kind)

abbrev pub is_output : Kind → Bool
is_output Output = true
is_output _ = false

-- how many outputs there are
abbrev pub output_count : Network → ℕ
output_count N = length (filter (λ node. is_output node.kind) N.nodes)

abbrev pub one_if : Bool → ℕ
one_if b = if b then 1 else 0

-- One edge by each slot and each operand that a node's kind has, and none by another; the edges ascend,
-- and each leads to a node further on, so that no node depends on itself. An input node has a port that no
-- other has, the output nodes have the ports from 0 on, each once, and other nodes have port 0.
pub record IsNetwork (N : Network) : Type 0 where
  -- there are few enough for numbers of 32 bits
  pub few_nodes : length N.nodes < 4294967296
  pub few_edges : length N.edges < 4294967296
  pub within : AllByRecursion (λ e. e.target < length N.nodes) N.edges
  pub forward : AllByRecursion (λ e. e.source < e.target) N.edges
  pub leaves : (v : ℕ) (kind : Kind) → HasKind N v kind → (slot : ℕ) → length (fan_out N.edges v slot) ≡ one_if (nat_lt slot (slots kind))
  pub enters : (v : ℕ) (kind : Kind) → HasKind N v kind → (operand : ℕ) → length (fan_in N.edges v operand) ≡ one_if (nat_lt operand (operands kind))
  pub ascending : AllPairs IsBefore N.edges
  pub inputs_apart : (u v port : ℕ) → HasPort N u Input port → HasPort N v Input port → u ≡ v
  pub outputs_apart : (u v port : ℕ) → HasPort N u Output port → HasPort N v Output port → u ≡ v
  pub outputs_within : (v port : ℕ) → HasPort N v Output port → port < output_count N
  pub outputs_all : (port : ℕ) → port < output_count N → (v : ℕ) × HasPort N v Output port
  pub portless : (v : ℕ) (kind : Kind) (port : ℕ) → HasPort N v kind port → kind ≢ Input → kind ≢ Output → port ≡ 0
