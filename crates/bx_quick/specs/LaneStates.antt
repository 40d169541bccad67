-- Lanes: each holds an edge that is on its way, and lane x is column x. From the edges of the inputs on,
-- each node in turn takes its edges from the lanes and gives those that leave it.
use Rattle.std.specs.Prelude.{ℕ, zero, suc, ◌+◌, ◌-◌, ◌==◌, nat_lt, if◌then◌else◌, List, [], ◌∷◌, ◌++◌, length, swap, take, slice_set, max}
use Rattle.std.specs.List.{position_or_len}
use Rattle.bx_forms.specs.declared.kind.Kind.{Kind}
use Rattle.bx_forms.specs.declared.kind.Kind.TheVariants.{Input, Output, Not, Fan, And, Or, Nand, Nor, Xor, Xnor}
use Rattle.bx_network.specs.declared.node.Node.{Node}
use Rattle.bx_network.specs.declared.node.Edge.{Edge}
use Rattle.bx_network.specs.Networks.{Network}
use Rattle.bx_network.specs.Values.{edge_into, edge_out}
use Rattle.bx_layout.specs.Valuations.{is_input}
use Rattle.bx_quick.specs.declared.operation.Operation.{Operation}
use Rattle.bx_quick.specs.Operations.{cross, node_form}

-- the edge in each lane, and the operations that led there
pub record State : Type 0 where
  pub lanes : List ℕ
  pub operations : List Operation

-- the operations, and one more at this lane
abbrev pub with_operation : State → ℕ → ℕ → List Operation
with_operation state lane form =
    state.operations ++ (record { lanes = length state.lanes; lane = lane; form = form }) ∷ []

-- the lane in which the edge is on its way
abbrev pub lane_of : List ℕ → ℕ → ℕ
lane_of lanes e = position_or_len (λ other. other == e) lanes

-- the edges of lanes x and x + 1 change places
abbrev pub exchange : State → ℕ → State
exchange state x = record {
  lanes = swap state.lanes x (x + 1);
  operations = with_operation state x cross;
}

-- the edge of lane x moves so many lanes to the right, past one other at a time
abbrev pub move_right : State → ℕ → ℕ → State
move_right state x zero = state
move_right state x (suc n) = move_right (exchange state x) (x + 1) n

-- the edge moves to this lane
abbrev pub move_to : State → ℕ → ℕ → State
move_to state e lane = move_right state (lane_of state.lanes e) (lane - lane_of state.lanes e)

-- this edge takes the place of the one that ends in a node
abbrev pub replace : State → ℕ → ℕ → ℕ → State
replace state lane form out = record {
  lanes = slice_set state.lanes lane out;
  operations = with_operation state lane form;
}

-- these edges take the place of all that stand from this lane on
abbrev pub replace_last : State → ℕ → ℕ → List ℕ → State
replace_last state lane form outs = record {
  lanes = take lane state.lanes ++ outs;
  operations = with_operation state lane form;
}

-- both edges move to the end, the one further right first
abbrev pub move_both : State → ℕ → ℕ → State
move_both state left right =
    move_to (move_to state right (length state.lanes - 1)) left (length state.lanes - 2)

abbrev pub move_pair : State → ℕ → ℕ → State
move_pair state a b =
    if nat_lt (lane_of state.lanes a) (lane_of state.lanes b) then move_both state a b
    else move_both state b a

-- a `not` stands in the lane of its edge
abbrev pub after_not : List Edge → ℕ → State → State
after_not edges v state =
    replace state (lane_of state.lanes (edge_into edges v 0)) (node_form Not) (edge_out edges v 0)

-- a fan takes the last lane, and gives the last two
abbrev pub after_fan : List Edge → ℕ → State → State
after_fan edges v state =
    replace_last (move_to state (edge_into edges v 0) (length state.lanes - 1))
    (length state.lanes - 1) (node_form Fan) (edge_out edges v 0 ∷ edge_out edges v 1 ∷ [])

-- a gate takes the last two lanes, and gives the last one
abbrev pub after_gate : List Edge → ℕ → Kind → State → State
after_gate edges v kind state =
    replace_last (move_pair state (edge_into edges v 0) (edge_into edges v 1))
    (length state.lanes - 2) (node_form kind) (edge_out edges v 0 ∷ [])

-- inputs stand at the start, and outputs at the end
abbrev pub after_node : List Edge → ℕ → Kind → State → State
after_node edges v Input state = state
after_node edges v Output state = state
after_node edges v Not state = after_not edges v state
after_node edges v Fan state = after_fan edges v state
after_node edges v And state = after_gate edges v And state
after_node edges v Or state = after_gate edges v Or state
after_node edges v Nand state = after_gate edges v Nand state
after_node edges v Nor state = after_gate edges v Nor state
after_node edges v Xor state = after_gate edges v Xor state
after_node edges v Xnor state = after_gate edges v Xnor state

-- the state behind these nodes, which are numbered from v on
unfoldable pub after_nodes : List Edge → ℕ → List Node → State → State
after_nodes edges v [] state = state
after_nodes edges v (node ∷ nodes) state =
    after_nodes edges (v + 1) nodes (after_node edges v node.kind state)

-- the edges of the inputs among these nodes, in node order
unfoldable pub input_edges : List Edge → ℕ → List Node → List ℕ
input_edges edges v [] = []
input_edges edges v (node ∷ nodes) =
    if is_input node.kind then edge_out edges v 0 ∷ input_edges edges (v + 1) nodes
    else input_edges edges (v + 1) nodes

-- the first state, and the last
unfoldable pub start_of : Network → State
start_of N = record { lanes = input_edges N.edges 0 N.nodes; operations = [] }

unfoldable pub end_of : Network → State
end_of N = after_nodes N.edges 0 N.nodes (start_of N)

-- how many lanes there are behind a node of this kind, where there were s
abbrev pub lanes_after : Kind → ℕ → ℕ
lanes_after Input s = s
lanes_after Output s = s
lanes_after Not s = s
lanes_after Fan s = s + 1
lanes_after And s = s - 1
lanes_after Or s = s - 1
lanes_after Nand s = s - 1
lanes_after Nor s = s - 1
lanes_after Xor s = s - 1
lanes_after Xnor s = s - 1

-- the largest number of lanes from here on
unfoldable pub most_lanes : ℕ → List Node → ℕ
most_lanes s [] = s
most_lanes s (node ∷ nodes) = max s (most_lanes (lanes_after node.kind s) nodes)

-- the largest number of lanes at all
unfoldable pub width_of : Network → ℕ
width_of N = most_lanes (length (start_of N).lanes) N.nodes
