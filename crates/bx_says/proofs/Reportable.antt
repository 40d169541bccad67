-- The report of a layout can be told from any other, where names are plain and nodes stand on tiles.
use Rattle.std.proofs.Common.{◌≡◌, ℕ, zero, suc, Bool, true, false, List, [], ◌∷◌, length, map, filter, Option, Some, None, if◌then◌else◌, refl, subst, ◌==◌, arith}
use Rattle.std.specs.Prelude.{cond, find, option_map, slice_get, slice_index_or}
use Rattle.std.specs.List.{AllByRecursion, filter_map, cons_option, range_with_len}
use Rattle.bx_logic.specs.Nets.{Netlist, output_names}
use Rattle.bx_forms.specs.declared.kind.Kind.{Kind}
use Rattle.bx_grid.specs.declared.ratio.Ratio.{Ratio}
use Rattle.bx_grid.specs.Tiles.{IsTile}
use Rattle.bx_network.specs.declared.node.Node.{Node}
use Rattle.bx_network.specs.Networks.{Network, IsNetwork, is_output}
use Rattle.bx_layout.specs.Grids.{FormGrid, IsFormGrid}
use Rattle.bx_layout.specs.Pins.{Pin, pins_at}
use Rattle.bx_layout.specs.Valuations.{is_input}
use Rattle.bx_says.specs.Texts.{Text, IsPlain}
use Rattle.bx_says.specs.Ports.{is_unused, tile_of, port_at}
use Rattle.bx_says.specs.Reports.{report_of, HasPlainNames, IsPlainPort, IsReportable}

-- any of plain names, and none, is plain
name-plain : (names : List Text) (k : ℕ) → AllByRecursion IsPlain names → IsPlain (slice_index_or names k [])
name-plain [] k are = tt
name-plain (name ∷ names) zero are = are.0
name-plain (name ∷ names) (suc k) are = name-plain names k are.1

names-plain : (names : List Text) (ks : List ℕ) → AllByRecursion IsPlain names → AllByRecursion IsPlain (map (λ k. slice_index_or names k []) ks)
names-plain names [] are = tt
names-plain names (k ∷ ks) are = (name-plain names k are, names-plain names ks are)

module _ (r : Ratio) where
  abbrev OnTile : Pin → Type 0
  OnTile pin = IsTile r pin.tile

  pins-on_tiles : (test : Kind → Bool) (nodes : List Node) (places : List ℕ) → ((v t : ℕ) → slice_get places v ≡ Some t → IsTile r t) → AllByRecursion OnTile (pins_at test nodes places)
  pins-on_tiles test [] places on = tt
  pins-on_tiles test (node ∷ nodes) [] on = tt
  pins-on_tiles test (node ∷ nodes) (tile ∷ tiles) on =
      let here : IsTile r tile = on 0 tile refl in
      let further : AllByRecursion OnTile (pins_at test nodes tiles) = pins-on_tiles test nodes tiles (λ v. on (suc v)) in
      elim (test node.kind) as (λ b. AllByRecursion OnTile (if b then (record { port = node.port; tile = tile }) ∷ pins_at test nodes tiles else pins_at test nodes tiles)) [
        | true ↦ (here, further)
        | false ↦ further
      ]

  -- the tile of a port, if it has one
  abbrev IsTileIfAny : Option ℕ → Type 0
  IsTileIfAny found = (t : ℕ) → found ≡ Some t → IsTile r t

  tile-on : (port : ℕ) (pins : List Pin) → AllByRecursion OnTile pins → IsTileIfAny (tile_of pins port)
  tile-on port [] are = λ t e. cc
  tile-on port (pin ∷ pins) are = by (pin.port == port) (tile-on port pins are.1)
    where
      by : (b : Bool) → IsTileIfAny (tile_of pins port) → IsTileIfAny (option_map (λ p. p.tile) (cond b (Some pin) (find (λ p. p.port == port) pins)))
      by true rest = λ t e. let same : pin.tile ≡ t = cc in subst (IsTile r) same are.0
      by false rest = rest

  ports-plain : (names : List Text) (pins : List Pin) (ks : List ℕ) → AllByRecursion IsPlain names → AllByRecursion OnTile pins → AllByRecursion (IsPlainPort r) (filter_map (port_at names pins) ks)
  ports-plain names pins [] plain on = tt
  ports-plain names pins (k ∷ ks) plain on = by (tile_of pins k) (tile-on k pins on) (ports-plain names pins ks plain on)
    where
      by : (found : Option ℕ) → IsTileIfAny found → AllByRecursion (IsPlainPort r) (filter_map (port_at names pins) ks)
          → AllByRecursion (IsPlainPort r) (cons_option (option_map (λ tile. record { name = slice_index_or names k []; tile = tile }) found) (filter_map (port_at names pins) ks))
      by None is rest = rest
      by (Some t) is rest = ((name-plain names k plain, is t refl), rest)

pub reportable : (net : Netlist) (N : Network) (places : List ℕ) (g : FormGrid) → HasPlainNames net → IsNetwork N → IsFormGrid g → ((v t : ℕ) → slice_get places v ≡ Some t → IsTile g.ratio t) → IsReportable (report_of net N places g)
reportable net N places g plain network grid on = record {
  name = plain.name;
  nodes = omega (arith, network.few_nodes);
  edges = omega (arith, network.few_edges);
  unused = names-plain net.inputs (filter (is_unused N) (range_with_len 0 (length net.inputs))) plain.inputs;
  grid = grid;
  inputs = ports-plain g.ratio net.inputs (pins_at is_input N.nodes places) (range_with_len 0 (length net.inputs)) plain.inputs (pins-on_tiles g.ratio is_input N.nodes places on);
  outputs = ports-plain g.ratio (output_names net) (pins_at is_output N.nodes places) (range_with_len 0 (length (output_names net))) plain.outputs (pins-on_tiles g.ratio is_output N.nodes places on);
}
