-- Numbers: the nodes and edges of a network, each node known by its place in the list of nodes.
use Rattle.std.specs.Prelude.{ℕ, zero, suc, ◌+◌, List, [], ◌∷◌, ◌++◌, length}
use Rattle.bx_forms.specs.declared.kind.Kind.TheVariants as kind
use Rattle.bx_network.specs.declared.node.Node.{Node}
use Rattle.bx_network.specs.declared.node.Edge.{Edge}
use Rattle.bx_network.specs.Networks.{Network}
use Rattle.bx_map.specs.declared.cell.Cell.{Cell}
use Rattle.bx_map.specs.declared.cell.Target.{Target}
use Rattle.bx_map.specs.Cells.{CellNet, cell_at, kind_of, port_of}
use Rattle.bx_map.specs.declared.consumer.Consumer.{Consumer}
use Rattle.bx_map.specs.declared.consumer.Consumer.TheVariants.{Operand, Output}
use Rattle.bx_map.specs.FanOuts.{FanOut, direct, fan, tree_at}

abbrev pub edge_to : ℕ → ℕ → Target → Edge
edge_to source slot target = record { source = source; slot = slot; target = target.node; operand = target.operand }

abbrev pub cell_node : Cell → Node
cell_node cell = record { kind = kind_of cell; port = port_of cell }

abbrev pub fan_node : Node
fan_node = record { kind = kind.Fan; port = 0 }

abbrev pub output_node : ℕ → Node
output_node port = record { kind = kind.Output; port = port }

-- a fan, the fans of what its slot 0 serves, and those of what its slot 1 serves
unfoldable pub fans : FanOut → List Node
fans (direct consumer) = []
fans (fan first second) = fan_node ∷ (fans first ++ fans second)

-- a cell, followed by its fans
abbrev pub cell_nodes : CellNet → ℕ → List Node
cell_nodes net i = cell_node (cell_at net.cells i) ∷ fans (tree_at net i)

-- the nodes of the first so many cells
unfoldable pub nodes_before : CellNet → ℕ → List Node
nodes_before net zero = []
nodes_before net (suc i) = nodes_before net i ++ cell_nodes net i

-- the outputs from one port on, in port order
abbrev pub output_nodes : ℕ → List ℕ → List Node
output_nodes j [] = []
output_nodes j (i ∷ is) = output_node j ∷ output_nodes (suc j) is

-- the number of a cell's node
abbrev pub number : CellNet → ℕ → ℕ
number net i = length (nodes_before net i)

-- where the edge to a consumer ends; the outputs come behind all cells and their fans
abbrev pub place : CellNet → Consumer → Target
place net (Operand i k) = record { node = number net i; operand = k }
place net (Output j) = record { node = number net (length net.cells) + j; operand = 0 }

-- where an edge to this tree ends, if its fans are numbered from here on
abbrev pub entry : CellNet → ℕ → FanOut → Target
entry net v (direct consumer) = place net consumer
entry net v (fan first second) = record { node = v; operand = 0 }

-- the edges that leave the fans of this tree, by fan and then by slot, if they are numbered from here on
unfoldable pub fan_edges : CellNet → ℕ → FanOut → List Edge
fan_edges net v (direct consumer) = []
fan_edges net v (fan first second) =
    edge_to v 0 (entry net (suc v) first)
    ∷ edge_to v 1 (entry net (suc v + length (fans first)) second)
    ∷ (fan_edges net (suc v) first ++ fan_edges net (suc v + length (fans first)) second)

-- the edges that leave a cell and its fans
abbrev pub cell_edges : CellNet → ℕ → List Edge
cell_edges net i = edge_to (number net i) 0 (entry net (suc (number net i)) (tree_at net i)) ∷ fan_edges net (suc (number net i)) (tree_at net i)

-- the edges that leave the nodes of the first so many cells
unfoldable pub edges_before : CellNet → ℕ → List Edge
edges_before net zero = []
edges_before net (suc i) = edges_before net i ++ cell_edges net i

unfoldable pub numbering_of : CellNet → Network
numbering_of net = record {
  nodes = nodes_before net (length net.cells) ++ output_nodes 0 net.outputs;
  edges = edges_before net (length net.cells);
}
