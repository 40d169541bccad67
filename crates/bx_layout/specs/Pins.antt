-- Pins: which tiles of a form grid stand for the inputs and outputs of a network, and so what
-- behaviour the grid has, and when it computes the network.
use Rattle.std.specs.Prelude.{◌≡◌, ◌==◌, ◌↔◌, ℕ, Bool, false, if◌then◌else◌, List, [], ◌∷◌, ◌++◌, length, map, Contains}
use Rattle.std.specs.List.{range_with_len}
use Rattle.bx_logic.specs.Op.{first_value}
use Rattle.bx_logic.specs.Lists.{AreDistinct}
use Rattle.bx_logic.specs.Values.{value_of}
use Rattle.bx_logic.specs.Behaviours.{Behaviour, SameBehaviour}
use Rattle.bx_forms.specs.declared.kind.Kind.{Kind}
use Rattle.bx_forms.specs.declared.kind.Kind.TheVariants.{Input, Output}
use Rattle.bx_grid.specs.Tiles.{IsTile, IsInFirstRow, IsInLastRow}
use Rattle.bx_network.specs.declared.node.Node.{Node}
use Rattle.bx_network.specs.Networks.{Network, HasPort, is_output}
use Rattle.bx_network.specs.Values.{network_behaviour}
use Rattle.bx_layout.specs.declared.layout.Layout.{Layout}
use Rattle.bx_layout.specs.Grids.{FormGrid, Holds}
use Rattle.bx_layout.specs.Valuations.{comes_in, is_input, IsOnlyBorderValuation}

-- a port, and the tile that stands for it
pub record Pin : Type 0 where
  pub port : ℕ
  pub tile : ℕ

pub record Pins : Type 0 where
  pub inputs : List Pin
  pub outputs : List Pin

abbrev pub pin_ports : List Pin → List ℕ
pin_ports pins = map (λ pin. pin.port) pins

abbrev pub pin_tiles : List Pin → List ℕ
pin_tiles pins = map (λ pin. pin.tile) pins

-- the pins are one for each port of the nodes of this kind
pub record AreForPorts (N : Network) (kind : Kind) (pins : List Pin) : Type 0 where
  pub each : (port : ℕ) → Contains (pin_ports pins) port ↔ ((v : ℕ) × HasPort N v kind port)
  pub once : AreDistinct (pin_ports pins)

pub record ArePins (g : FormGrid) (N : Network) (pins : Pins) : Type 0 where
  -- one tile of the first row for each input of the network, and one of the last row for each
  -- output
  pub inputs : AreForPorts N Input pins.inputs
  pub outputs : AreForPorts N Output pins.outputs
  pub first : (t : ℕ) → Contains (pin_tiles pins.inputs) t →
      IsTile g.ratio t × IsInFirstRow g.ratio t × Holds g t Input
  pub last : (t : ℕ) → Contains (pin_tiles pins.outputs) t →
      IsTile g.ratio t × IsInLastRow g.ratio t × Holds g t Output
  pub apart : AreDistinct (pin_tiles pins.inputs ++ pin_tiles pins.outputs)
  -- no other tile holds an input or an output form
  pub no_more_inputs : (t : ℕ) → IsTile g.ratio t → Holds g t Input →
      Contains (pin_tiles pins.inputs) t
  pub no_more_outputs : (t : ℕ) → IsTile g.ratio t → Holds g t Output →
      Contains (pin_tiles pins.outputs) t

-- the value of the port whose pin is this tile
abbrev pub given_at : List Pin → List Bool → ℕ → Bool
given_at [] bits t = false
given_at (pin ∷ pins) bits t =
    if t == pin.tile then value_of bits pin.port else given_at pins bits t

-- what is given to the tiles of the first row
abbrev pub given_to : FormGrid → Pins → List Bool → List Bool
given_to g pins bits = map (given_at pins.inputs bits) (range_with_len 0 g.ratio.w)

-- of so many inputs each has a value, and each output has the value that its tile reads in the one
-- valuation of the borders
pub record GridGives (inputs : ℕ) (g : FormGrid) (pins : Pins) (bits outputs : List Bool) : Type 0 where
  pub given : length bits ≡ inputs
  pub borders : List Bool
  pub valuation : IsOnlyBorderValuation g (given_to g pins bits) borders
  pub all : length outputs ≡ length pins.outputs
  pub read : (pin : Pin) → Contains pins.outputs pin →
      value_of outputs pin.port ≡ first_value (comes_in g borders pin.tile)

-- a grid's behaviour by the ports of its pins, where there are so many inputs
abbrev pub grid_behaviour : ℕ → FormGrid → Pins → Behaviour
grid_behaviour inputs g pins = GridGives inputs g pins

-- for every assignment of the inputs the grid gives what the network gives
pub record Computes (inputs : ℕ) (g : FormGrid) (pins : Pins) (N : Network) : Type 0 where
  pub pins_fit : ArePins g N pins
  pub same : SameBehaviour (grid_behaviour inputs g pins) (network_behaviour inputs N)

-- the ports of the nodes that pass the test, and the tiles on which they stand, in the order of the
-- nodes
abbrev pub pins_at : (Kind → Bool) → List Node → List ℕ → List Pin
pins_at test [] tiles = []
pins_at test (node ∷ nodes) [] = []
pins_at test (node ∷ nodes) (tile ∷ tiles) =
    if test node.kind then (record { port = node.port; tile = tile }) ∷ pins_at test nodes tiles
    else pins_at test nodes tiles

-- the pins of a network where its nodes stand
abbrev pub pins_of : Network → Layout → Pins
pins_of N L = record {
  inputs = pins_at is_input N.nodes L.places;
  outputs = pins_at is_output N.nodes L.places;
}
