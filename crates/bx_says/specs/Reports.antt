-- The report of a layout, as lines: the module, the size of its network, the unused inputs, the ratio, the
-- tile of each port, and the form on each tile, row by row.
use Rattle.std.specs.Prelude.{ℕ, List, [], ◌∷◌, ◌++◌, ◌<◌, ◌^◌, length, map, codes, decimal, Option, None, Some, unwrap_or}
use Rattle.std.specs.List.{range_with_len, AllByRecursion}
use Rattle.bx_logic.specs.Nets.{Netlist, output_names}
use Rattle.bx_forms.specs.Forms.{form_name}
use Rattle.bx_grid.specs.declared.ratio.Ratio.{Ratio}
use Rattle.bx_grid.specs.Tiles.{IsTile, x_of, y_of, row_items}
use Rattle.bx_network.specs.Networks.{Network}
use Rattle.bx_layout.specs.Grids.{FormGrid, IsFormGrid}
use Rattle.bx_lines.specs.Lines.{text_of}
use Rattle.bx_says.specs.Texts.{Text, spaced, IsPlain}
use Rattle.bx_says.specs.Ports.{Port, Ports, unused_names, ports_of}

-- the module's name, how many nodes and edges its network has, and the names of the unused inputs
pub record Head : Type 0 where
  pub name : Text
  pub nodes : ℕ
  pub edges : ℕ
  pub unused : List Text

abbrev pub head_of : Netlist → Network → Head
head_of net N = record { name = net.name; nodes = length N.nodes; edges = length N.edges; unused = unused_names net N }

-- what a report says of a layout
pub record Report : Type 0 where
  pub head : Head
  pub ports : Ports
  pub grid : FormGrid

-- that of a net and its network, whose nodes stand on these tiles, and of the grid of forms
abbrev pub report_of : Netlist → Network → List ℕ → FormGrid → Report
report_of net N places g = record { head = head_of net N; ports = ports_of net N places; grid = g }

abbrev pub module_line : Text → Text
module_line name = spaced (codes "module") (name ∷ [])

abbrev pub nodes_line : ℕ → ℕ → Text
nodes_line nodes edges = spaced (codes "nodes") (decimal nodes ∷ codes "edges" ∷ decimal edges ∷ [])

abbrev pub unused_line : Text → Text
unused_line name = spaced (codes "unused") (name ∷ [])

abbrev pub found_line : Ratio → Text
found_line ratio = spaced (codes "found") (decimal ratio.w ∷ decimal ratio.h ∷ [])

-- a port, and the column and the row of its tile
abbrev pub port_line : Text → Ratio → Port → Text
port_line word ratio port = spaced word (port.name ∷ decimal (x_of ratio port.tile) ∷ decimal (y_of ratio port.tile) ∷ [])

abbrev pub tile_name : Option ℕ → Text
tile_name None = codes "empty"
tile_name (Some form) = unwrap_or (form_name form) []

-- a row, and the names of the forms on its tiles
abbrev pub row_line : FormGrid → ℕ → Text
row_line g y = spaced (codes "row") (decimal y ∷ map tile_name (row_items g.ratio g.tiles y))

abbrev pub head_lines : Head → List Text
head_lines head = module_line head.name ∷ nodes_line head.nodes head.edges ∷ map unused_line head.unused

abbrev pub port_lines : Ratio → Ports → List Text
port_lines ratio ports = map (port_line (codes "input") ratio) ports.inputs ++ map (port_line (codes "output") ratio) ports.outputs

abbrev pub row_lines : FormGrid → List Text
row_lines g = map (row_line g) (range_with_len 0 g.ratio.h)

abbrev pub report_lines : Report → List Text
report_lines report =
    head_lines report.head
    ++ found_line report.grid.ratio ∷ []
    ++ port_lines report.grid.ratio report.ports
    ++ row_lines report.grid

unfoldable pub report_text : Report → Text
report_text report = text_of (report_lines report)

-- a plain name, on a tile of the grid
abbrev pub IsPlainPort : Ratio → Port → Type 0
IsPlainPort ratio port = IsPlain port.name × IsTile ratio port.tile

-- a report that can be told from any other: names of one word, numbers of 64 bits, and ports on tiles of a
-- grid of forms
pub record IsReportable (report : Report) : Type 0 where
  pub name : IsPlain report.head.name
  pub nodes : report.head.nodes < 2 ^ 64
  pub edges : report.head.edges < 2 ^ 64
  pub unused : AllByRecursion IsPlain report.head.unused
  pub grid : IsFormGrid report.grid
  pub inputs : AllByRecursion (IsPlainPort report.grid.ratio) report.ports.inputs
  pub outputs : AllByRecursion (IsPlainPort report.grid.ratio) report.ports.outputs

-- no name of the module, of an input or of an output has a space or a line feed in it
pub record HasPlainNames (net : Netlist) : Type 0 where
  pub name : IsPlain net.name
  pub inputs : AllByRecursion IsPlain net.inputs
  pub outputs : AllByRecursion IsPlain (output_names net)
