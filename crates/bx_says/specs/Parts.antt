-- The parts of a report, as they are put out one after another.
use Rattle.std.specs.Prelude.{ℕ, Bool, List, [], ◌∷◌, length, flat_map, codes, decimal, map, slice_index_or, Option, Some, None, option_map, if◌then◌else◌}
use Rattle.std.specs.List.{range_with_len}
use Rattle.bx_logic.specs.Nets.{Netlist, output_names}
use Rattle.bx_forms.specs.declared.kind.Kind.{Kind}
use Rattle.bx_grid.specs.declared.ratio.Ratio.{Ratio}
use Rattle.bx_network.specs.Networks.{Network, is_output}
use Rattle.bx_layout.specs.Valuations.{is_input}
use Rattle.bx_layout.specs.Pins.{Pin, pins_at}
use Rattle.bx_lines.specs.Lines.{ended}
use Rattle.bx_says.specs.declared.pins.Direction.{Direction}
use Rattle.bx_says.specs.declared.pins.Direction.TheVariants.{In, Out}
use Rattle.bx_says.specs.Texts.{Text, spaced}
use Rattle.bx_says.specs.Ports.{Port, is_unused, port_at}
use Rattle.bx_says.specs.Reports.{unused_line, port_line, tile_name}

-- the line of an input where it is unused, and else nothing
abbrev pub unused_text_at : Netlist → Network → ℕ → Text
unused_text_at net N port = if is_unused N port then ended (unused_line (slice_index_or net.inputs port [])) else []

abbrev pub unused_text : Netlist → Network → Text
unused_text net N = flat_map (unused_text_at net N) (range_with_len 0 (length net.inputs))

-- which nodes stand for inputs, or for outputs, their names, and the word with which their lines begin
abbrev pub kind_test : Direction → Kind → Bool
kind_test In = is_input
kind_test Out = is_output

abbrev pub names_of : Direction → Netlist → List Text
names_of In net = net.inputs
names_of Out net = output_names net

abbrev pub direction_word : Direction → Text
direction_word In = codes "input"
direction_word Out = codes "output"

-- the line of a port, or nothing
abbrev pub port_text : Text → Ratio → Option Port → Text
port_text word ratio None = []
port_text word ratio (Some port) = ended (port_line word ratio port)

-- those of all ports with these names that have a pin
abbrev pub ports_text : Text → Ratio → List Text → List Pin → Text
ports_text word ratio names pins = flat_map (λ port. port_text word ratio (port_at names pins port)) (range_with_len 0 (length names))

-- those of the inputs, or of the outputs, where the nodes of the network stand on these tiles
abbrev pub direction_text : Direction → Ratio → Netlist → Network → List ℕ → Text
direction_text direction ratio net N places = ports_text (direction_word direction) ratio (names_of direction net) (pins_at (kind_test direction) N.nodes places)

-- a port of this name, if a node stands for it
abbrev pub port_on : Text → Option ℕ → Option Port
port_on name tile = option_map (λ tile. record { name = name; tile = tile }) tile

-- the line of row y, with these tiles
abbrev pub tiles_text : ℕ → List (Option ℕ) → Text
tiles_text y tiles = ended (spaced (codes "row") (decimal y ∷ map tile_name tiles))
