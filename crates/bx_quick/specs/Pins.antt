-- Where the inputs and outputs of a network stand on its grid, by port order: an input on the lane of its
-- edge in the first row, and an output on that of its edge in the last.
use Rattle.std.specs.Prelude.{ℕ, ◌+◌, ◌-◌, ◌*◌, ◌==◌, ◌&&◌, nat_lt, if◌then◌else◌, Bool, List, [], ◌∷◌, map, insert}
use Rattle.std.specs.List.{position_or_len, range_with_len}
use Rattle.bx_network.specs.declared.node.Node.{Node}
use Rattle.bx_network.specs.Networks.{Network, output_count, is_output}
use Rattle.bx_network.specs.Values.{edge_into}
use Rattle.bx_layout.specs.Pins.{Pin, Pins}
use Rattle.bx_layout.specs.Valuations.{is_input}
use Rattle.bx_quick.specs.LaneStates.{end_of, lane_of, width_of}
use Rattle.bx_quick.specs.Grids.{height_of}

abbrev pub pin_at : ℕ → ℕ → Pin
pin_at port tile = record { port = port; tile = tile }

-- the pin stands before the first that has a larger port
abbrev pub with_pin : List Pin → Pin → List Pin
with_pin pins pin = insert pins (position_or_len (λ other. nat_lt pin.port other.port) pins) pin

-- these pins, and those of the inputs among the nodes, whose tiles are numbered from t on in node order
unfoldable pub with_inputs : List Pin → ℕ → List Node → List Pin
with_inputs pins t [] = pins
with_inputs pins t (node ∷ nodes) =
    if is_input node.kind then with_inputs (with_pin pins (pin_at node.port t)) (t + 1) nodes
    else with_inputs pins t nodes

-- the node of an output
abbrev pub is_output_at : ℕ → Node → Bool
is_output_at port node = is_output node.kind && (node.port == port)

abbrev pub output_node : Network → ℕ → ℕ
output_node N port = position_or_len (is_output_at port) N.nodes

-- the tile on which it stands: that of its edge's lane in the last row
abbrev pub output_tile_of : Network → ℕ → ℕ
output_tile_of N port =
    (height_of N - 1) * width_of N + lane_of (end_of N).lanes (edge_into N.edges (output_node N port) 0)

unfoldable pub quick_pins : Network → Pins
quick_pins N = record {
  inputs = with_inputs [] 0 N.nodes;
  outputs = map (λ port. pin_at port (output_tile_of N port)) (range_with_len 0 (output_count N));
}
