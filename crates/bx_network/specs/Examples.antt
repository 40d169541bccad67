-- Small networks that the laws speak of.
use Rattle.std.specs.Prelude.{ℕ, Bool, false, not, List, [], ◌∷◌}
use Rattle.bx_forms.specs.declared.kind.Kind.{Kind}
use Rattle.bx_forms.specs.declared.kind.Kind.TheVariants.{Input, Output, Not, Fan, And}
use Rattle.bx_network.specs.declared.node.Node.{Node}
use Rattle.bx_network.specs.declared.node.Edge.{Edge}
use Rattle.bx_network.specs.Networks.{Network, network_of}

-- a node with this port, and one with port 0
abbrev pub node_with : Kind → ℕ → Node
node_with kind port = record { kind = kind; port = port }

abbrev pub node : Kind → Node
node kind = node_with kind 0

abbrev pub edge : ℕ → ℕ → ℕ → ℕ → Edge
edge source slot target operand = record { source = source; slot = slot; target = target; operand = operand }

-- an input, its inversion, and the output of it, joined by these edges
abbrev pub inversion_with : List Edge → Network
inversion_with edges = network_of (node Input ∷ node Not ∷ node Output ∷ []) edges

abbrev pub inversion : Network
inversion = inversion_with (edge 0 0 1 0 ∷ edge 1 0 2 0 ∷ [])

-- two inversions that feed each other
abbrev pub ring : Network
ring = network_of (node Not ∷ node Not ∷ []) (edge 0 0 1 0 ∷ edge 1 0 0 0 ∷ [])

-- two inputs with these ports, and the output with this port of their conjunction
abbrev pub conjunction_at : ℕ → ℕ → ℕ → Network
conjunction_at one other output =
    network_of (node_with Input one ∷ node_with Input other ∷ node And ∷ node_with Output output ∷ [])
    (edge 0 0 2 0 ∷ edge 1 0 2 1 ∷ edge 2 0 3 0 ∷ [])

-- an input that is handed on to two outputs with these ports
abbrev pub shared_at : ℕ → ℕ → Network
shared_at one other =
    network_of (node Input ∷ node Fan ∷ node_with Output one ∷ node_with Output other ∷ [])
    (edge 0 0 1 0 ∷ edge 1 0 2 0 ∷ edge 1 1 3 0 ∷ [])

-- two ways from the input to the output: `and` of a value and its inversion
abbrev pub branching : Network
branching =
    network_of (node Input ∷ node Fan ∷ node Not ∷ node And ∷ node Output ∷ [])
    (edge 0 0 1 0 ∷ edge 1 0 2 0 ∷ edge 1 1 3 1 ∷ edge 2 0 3 0 ∷ edge 3 0 4 0 ∷ [])

-- the values of its edges where the input has this one
abbrev pub branching_values : Bool → List Bool
branching_values b = b ∷ b ∷ b ∷ not b ∷ false ∷ []
