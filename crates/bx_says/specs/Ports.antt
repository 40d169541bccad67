-- What is printed of the ports of a net: which inputs are unused, and on which tiles the nodes of the other
-- inputs, and of the outputs, stand.
use Rattle.std.specs.Prelude.{ℕ, Bool, not, ◌==◌, ◌&&◌, List, [], length, map, filter, find, Option, option_map, slice_index_or}
use Rattle.std.specs.List.{range_with_len, list_any, filter_map}
use Rattle.bx_logic.specs.Nets.{Netlist, output_names}
use Rattle.bx_network.specs.declared.node.Node.{Node}
use Rattle.bx_network.specs.Networks.{Network, is_output}
use Rattle.bx_layout.specs.Valuations.{is_input}
use Rattle.bx_layout.specs.Pins.{Pin, pins_at}
use Rattle.bx_says.specs.Texts.{Text}

-- whether this is the input node with this port
abbrev pub is_input_at : ℕ → Node → Bool
is_input_at port node = is_input node.kind && (node.port == port)

-- an input is unused where no node has its port
abbrev pub is_unused : Network → ℕ → Bool
is_unused N port = not (list_any (is_input_at port) N.nodes)

-- the names of the unused inputs, in port order
abbrev pub unused_names : Netlist → Network → List Text
unused_names net N = map (λ port. slice_index_or net.inputs port []) (filter (is_unused N) (range_with_len 0 (length net.inputs)))

-- a port as it is printed: its name, and the tile that stands for it
pub record Port : Type 0 where
  pub name : Text
  pub tile : ℕ

-- the tile of the first pin of this port, or none where no pin has it
abbrev pub tile_of : List Pin → ℕ → Option ℕ
tile_of pins port = option_map (λ pin. pin.tile) (find (λ pin. pin.port == port) pins)

-- of ports with these names, that with this number, if a pin stands for it
abbrev pub port_at : List Text → List Pin → ℕ → Option Port
port_at names pins port = option_map (λ tile. record { name = slice_index_or names port []; tile = tile }) (tile_of pins port)

-- all for which a pin stands, in port order
abbrev pub ports_at : List Text → List Pin → List Port
ports_at names pins = filter_map (port_at names pins) (range_with_len 0 (length names))

pub record Ports : Type 0 where
  pub inputs : List Port
  pub outputs : List Port

-- the ports of a net, where the nodes of its network stand on these tiles
abbrev pub ports_of : Netlist → Network → List ℕ → Ports
ports_of net N places = record {
  inputs = ports_at net.inputs (pins_at is_input N.nodes places);
  outputs = ports_at (output_names net) (pins_at is_output N.nodes places);
}
