-- What the bytes of an answer are worth to who reads them: the certificate refutes each earlier ratio, and the dots of
-- the design, cut by the library, make a layout that computes the module.
use Rattle.std.specs.Prelude.{◌≡◌, ℕ, ◌<◌, length, slice_get, Option, Some, None, IsSomeAnd}
use Rattle.bx_logic.specs.Nets.{Netlist}
use Rattle.bx_logic.specs.Behaviours.{SameBehaviour}
use Rattle.bx_cert.specs.Certs.{Certificate, IsCert}
use Rattle.bx_cert.specs.Texts.{cert_text}
use Rattle.bx_cert.specs.declared.parts.CertLast.{CertLast}
use Rattle.bx_cert.specs.declared.parts.CertLast.TheVariants.{Found, Undecided, NoneWithin}
use Rattle.bx_design.specs.Certificates.{spots_of}
use Rattle.bx_dots.specs.Cuts.{IsCut}
use Rattle.bx_dots.specs.Permits.{permit_of}
use Rattle.bx_forms.specs.declared.kind.Kind.TheVariants.{Input}
use Rattle.bx_grid.specs.Orders.{order}
use Rattle.bx_grid.specs.declared.ratio.Ratio.{Ratio}
use Rattle.bx_layout.specs.Grids.{FormGrid, IsFormGrid, IsSound}
use Rattle.bx_layout.specs.Legal.{IsLegal}
use Rattle.bx_layout.specs.Permits.{PermitTest}
use Rattle.bx_layout.specs.Pins.{ArePins, pins_of, grid_behaviour}
use Rattle.bx_layout.specs.TileForms.{IsFormGridOf}
use Rattle.bx_layout.specs.Ways.{IsRowClocked}
use Rattle.bx_layout.specs.declared.layout.Layout.{Layout}
use Rattle.bx_library.specs.Tiles.{Tiles}
use Rattle.bx_network.specs.Networks.{Network, IsNetwork, HasPort, output_count}
use Rattle.bx_network.specs.Values.{network_behaviour}
use Rattle.bx_refutes.specs.Refutations.{AreSections, LackLayouts}
use Rattle.bx_says.specs.Reports.{report_of, report_text}
use Rattle.bx_siqad.specs.Designs.{Drawing}
use Rattle.bx_siqad.specs.Texts.{IsTextOf}
use Rattle.bx_syntax.specs.Parts.{ModuleTree}
use Rattle.bx_verilog.specs.Elaboration.{net_of}
use Rattle.bx_verilog.specs.Equations.{Module, module_of, module_behaviour}
use Rattle.bx_verilog.specs.Formulas.{Text}
use Rattle.bx_verdict.specs.Verdicts.{IsVerdict}
use Rattle.bx_verdict.specs.declared.verdict.Ended.TheVariants as ended
use Rattle.bx_engine.specs.Said.{search_text}
use Rattle.bx_engine.specs.Tasks.{Task}
use Rattle.bx_engine.specs.Texts.{network_of}

-- a network has the ports of a net, and computes a module
pub record ComputesModule (net : Netlist) (m : Module) (N : Network) : Type 0 where
  pub network : IsNetwork N
  pub inputs : (v port : ℕ) → HasPort N v Input port → port < length net.inputs
  pub outputs : output_count N ≡ length net.outputs
  pub meaning : SameBehaviour (network_behaviour (length net.inputs) N) (module_behaviour m)

-- the bytes are the text of a certificate of this task, which ends so, and has in order one section for each
-- earlier ratio, whose refutation holds or is accepted; so none of these has a legal layout under the permit
pub record IsEvidence (task : Task) (N : Network) (permit : PermitTest) (bytes : Text)
    (last : CertLast) : Type 0 where
  pub cert : Certificate
  pub is_cert : IsCert cert
  pub limits : cert.limits ≡ task.limits
  pub budget : cert.budget ≡ task.budget
  pub ends : cert.last ≡ last
  pub spelled : bytes ≡ cert_text cert
  pub sections : AreSections N permit (order task.limits) cert.sections
  pub lacking : LackLayouts N permit (order task.limits) (length cert.sections)

-- so many sections it has, as there are ratios before this one
pub record IsEvidenceBefore (task : Task) (N : Network) (permit : PermitTest) (bytes : Text)
    (last : CertLast) (ratio : Ratio) : Type 0 where
  pub evidence : IsEvidence task N permit bytes last
  pub next : slice_get (order task.limits) (length evidence.cert.sections) ≡ Some ratio

-- a layout of this ratio was found, and it is drawn and printed
pub record IsFound (task : Task) (m : ModuleTree) (lib : Tiles) (ratio : Ratio)
    (design cert said : Text) : Type 0 where
  -- the mapped network computes the module
  pub computed : ComputesModule (net_of m) (module_of m) (network_of m)
  -- the bytes of the design are the text of this ratio and of a set of dots
  pub drawing : Drawing
  pub drawn : IsTextOf drawing design
  pub drawn_sides : drawing.ratio ≡ ratio
  -- the library cuts these dots into a grid of forms, which is sound
  pub grid : FormGrid
  pub cut : IsCut lib ratio drawing.dots grid
  pub whole : IsFormGrid grid
  pub sound : IsSound grid
  -- it is that of a legal layout of the network, of forms of the library
  pub layout : Layout
  pub sides : layout.ratio ≡ ratio
  pub legal : IsLegal (network_of m) (permit_of lib) layout
  pub forms : IsFormGridOf (network_of m) layout grid
  -- in which each signal goes from a tile to one of the next of the four clock zones
  pub clocked : IsRowClocked layout
  -- the grid has a pin for each used input and each output, and with them computes the module
  pub ports : ArePins grid (network_of m) (pins_of (network_of m) layout)
  pub computes : SameBehaviour
      (grid_behaviour (length (net_of m).inputs) grid (pins_of (network_of m) layout))
      (module_behaviour (module_of m))
  -- both are printed
  pub printed : said ≡ report_text (report_of (net_of m) (network_of m) layout.places grid)
  -- and no earlier ratio has a legal layout of forms of the library
  pub least : IsEvidenceBefore task (network_of m) (permit_of lib) cert (Found ratio (spots_of layout)) ratio

-- this ratio is the first that isn't refuted, the budget leaves it undecided, and this is said
pub record IsLeftUndecided (task : Task) (m : ModuleTree) (lib : Tiles) (ratio : Ratio) (spent : ℕ)
    (cert said : Text) : Type 0 where
  pub computed : ComputesModule (net_of m) (module_of m) (network_of m)
  pub verdict : IsVerdict (network_of m) (permit_of lib) ratio task.budget (ended.Undecided spent)
  pub printed : said ≡ search_text (net_of m) (network_of m) (Undecided ratio spent) None
  pub least : IsEvidenceBefore task (network_of m) (permit_of lib) cert (Undecided ratio spent) ratio

-- each ratio within the limits is refuted, and this is said
pub record IsNoneWithin (task : Task) (m : ModuleTree) (lib : Tiles) (cert said : Text) : Type 0 where
  pub computed : ComputesModule (net_of m) (module_of m) (network_of m)
  pub printed : said ≡ search_text (net_of m) (network_of m) NoneWithin None
  pub evidence : IsEvidence task (network_of m) (permit_of lib) cert NoneWithin
  pub all : length evidence.cert.sections ≡ length (order task.limits)

-- so it is with each way in which a search ends; there is a design where a layout was found, and else none
abbrev pub IsWorth : Task → ModuleTree → Tiles → CertLast → Option Text → Text → Text → Type 0
IsWorth task m lib (Found ratio spots) design cert said =
    IsSomeAnd design (λ bytes. IsFound task m lib ratio bytes cert said)
IsWorth task m lib (Undecided ratio spent) design cert said =
    (design ≡ None) × IsLeftUndecided task m lib ratio spent cert said
IsWorth task m lib NoneWithin design cert said = (design ≡ None) × IsNoneWithin task m lib cert said
