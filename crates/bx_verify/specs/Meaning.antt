-- What it means that a ratio is minimal, whoever made the design and the certificate: the design computes the net,
-- and nothing earlier in the order has a layout.
use Rattle.std.specs.Prelude.{◌≡◌, List, length, slice_get, Some}
use Rattle.bx_cert.specs.Certs.{Certificate}
use Rattle.bx_cert.specs.declared.parts.Spot.{Spot}
use Rattle.bx_dots.specs.Cuts.{IsCut}
use Rattle.bx_grid.specs.Orders.{order, IsEarlier}
use Rattle.bx_grid.specs.declared.ratio.Ratio.{Ratio}
use Rattle.bx_layout.specs.Grids.{FormGrid, IsSound}
use Rattle.bx_layout.specs.Legal.{IsLegal, LacksLayout}
use Rattle.bx_layout.specs.Pins.{ArePins, grid_behaviour}
use Rattle.bx_layout.specs.TileForms.{IsFormGridOf}
use Rattle.bx_layout.specs.declared.layout.Layout.{Layout}
use Rattle.bx_library.specs.Tiles.{Tiles}
use Rattle.bx_logic.specs.Behaviours.{SameBehaviour, net_behaviour}
use Rattle.bx_logic.specs.Nets.{Netlist}
use Rattle.bx_map.specs.Maps.{mapping_of}
use Rattle.bx_network.specs.Networks.{Network}
use Rattle.bx_refutes.specs.Refutations.{AreSections}
use Rattle.bx_siqad.specs.Designs.{Drawing}
use Rattle.bx_trace.specs.Traced.{pins_on}
use Rattle.bx_verify.specs.Failing.{IsFoundAt, tiles_of}
use Rattle.bx_dots.specs.Permits.{permit_of}
use Rattle.bx_verify.specs.declared.verdict.Verdict.{Verdict}
use Rattle.bx_verify.specs.declared.verdict.Verdict.TheVariants.{Minimal, Wrong}

module _ (N : Network) (lib : Tiles) (design : Drawing) (cert : Certificate) (r : Ratio) where
  -- the certificate's found ratio is that of the design, whose dots are cut into the form grid of a layout that is
  -- legal with the forms of the library and has the certificate's places
  pub record IsLaidOut : Type 0 where
    pub spots : List Spot
    pub claimed : IsFoundAt cert.last r spots
    pub sides : design.ratio ≡ r
    pub grid : FormGrid
    pub cut : IsCut lib r design.dots grid
    pub layout : Layout
    pub places : layout.places ≡ tiles_of r spots
    pub legal : IsLegal N (permit_of lib) layout
    pub forms : IsFormGridOf N layout grid

  -- the ratio stands in the order of the certificate's limits, and each one before it has a section that refutes it;
  -- so none of these has a legal layout
  pub record NoneIsEarlier : Type 0 where
    pub at : slice_get (order cert.limits) (length cert.sections) ≡ Some r
    pub sections : AreSections N (permit_of lib) (order cert.limits) cert.sections
    pub lacking : (earlier : Ratio) → IsEarlier cert.limits earlier r → LacksLayout N (permit_of lib) earlier

-- what a verdict shows of the network: nothing where something is wrong
abbrev pub Shows : Network → Tiles → Drawing → Certificate → Verdict → Type 0
Shows N lib design cert (Minimal r) =
    IsLaidOut N lib design cert r × NoneIsEarlier N lib design cert r
Shows N lib design cert (Wrong p k) = Unit {0}

-- the form grid is sound, and with the pins of the certificate's places it computes the net
pub record IsMinimal (net : Netlist) (lib : Tiles) (design : Drawing) (cert : Certificate) (r : Ratio) : Type 0 where
  pub laid : IsLaidOut (mapping_of net) lib design cert r
  pub sound : IsSound laid.grid
  pub pins : ArePins laid.grid (mapping_of net) (pins_on (mapping_of net) (tiles_of r laid.spots))
  pub computes : SameBehaviour
      (grid_behaviour (length net.inputs) laid.grid (pins_on (mapping_of net) (tiles_of r laid.spots)))
      (net_behaviour net)
  pub least : NoneIsEarlier (mapping_of net) lib design cert r

-- what a verdict means: nothing where something is wrong
abbrev pub Means : Netlist → Tiles → Drawing → Certificate → Verdict → Type 0
Means net lib design cert (Minimal r) = IsMinimal net lib design cert r
Means net lib design cert (Wrong p k) = Unit {0}
