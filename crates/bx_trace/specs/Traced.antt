-- The layouts that have given places and a given form grid.
use Rattle.std.specs.Prelude.{◌≡◌, ◌↔◌, ℕ, List, Some}
use Rattle.bx_grid.specs.Tiles.{IsTile}
use Rattle.bx_network.specs.Networks.{Network, is_output}
use Rattle.bx_layout.specs.declared.layout.Layout.{Layout}
use Rattle.bx_layout.specs.Grids.{FormGrid, form_at}
use Rattle.bx_layout.specs.Legal.{IsLegal}
use Rattle.bx_layout.specs.Permits.{all_forms}
use Rattle.bx_layout.specs.Pins.{Pins, pins_at}
use Rattle.bx_layout.specs.TileForms.{HasForm}
use Rattle.bx_layout.specs.Valuations.{is_input}

-- the layout has this form grid: of one ratio with it, and on each tile the form that it has there
pub record HasFormGrid (N : Network) (L : Layout) (g : FormGrid) : Type 0 where
  pub ratio : g.ratio ≡ L.ratio
  pub each : (t form : ℕ) → IsTile L.ratio t → (form_at g t ≡ Some form) ↔ HasForm N L t form

-- the layout is legal, whatever form it has on a tile, and has this form grid
pub record IsLegalWith (N : Network) (L : Layout) (g : FormGrid) : Type 0 where
  pub legal : IsLegal N all_forms L
  pub forms : HasFormGrid N L g

-- some legal layout has these places and this form grid
pub record IsTraced (N : Network) (g : FormGrid) (places : List ℕ) : Type 0 where
  pub layout : Layout
  pub stands : layout.places ≡ places
  pub legal : IsLegal N all_forms layout
  pub forms : HasFormGrid N layout g

-- the pins of a network whose nodes have these places
abbrev pub pins_on : Network → List ℕ → Pins
pins_on N places = record {
  inputs = pins_at is_input N.nodes places;
  outputs = pins_at is_output N.nodes places;
}
