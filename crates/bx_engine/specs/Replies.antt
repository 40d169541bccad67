-- What each job is answered: refused for what is first wrong with what is read for it, or else told what was asked for.
use Rattle.std.specs.Prelude.{◌≡◌, Option, Some}
use Rattle.bx_cert.specs.Certs.{Certificate}
use Rattle.bx_dots.specs.Cuts.{IsCut}
use Rattle.bx_layout.specs.Grids.{FormGrid}
use Rattle.bx_library.specs.Tiles.{Tiles}
use Rattle.bx_siqad.specs.Designs.{Drawing}
use Rattle.bx_syntax.specs.Parts.{ModuleTree}
use Rattle.bx_verify.specs.Answers.{IsVerdict}
use Rattle.bx_verify.specs.Meaning.{Means}
use Rattle.bx_verify.specs.declared.verdict.Verdict.{Verdict}
use Rattle.bx_verilog.specs.Elaboration.{net_of}
use Rattle.bx_verilog.specs.Formulas.{Text}
use Rattle.bx_engine.specs.declared.status.InputFault.{InputFault}
use Rattle.bx_engine.specs.declared.status.Status.{Status}
use Rattle.bx_engine.specs.declared.status.Status.TheVariants.{Done}
use Rattle.bx_engine.specs.Designs.{IsRefusedDesign, IsTakenDesign, IsRefusedCut, IsRefusedCert, IsTakenCert}
use Rattle.bx_engine.specs.Grids.{TellsGrid}
use Rattle.bx_engine.specs.Jobs.{Job, extracts, verifies, samples}
use Rattle.bx_engine.specs.Samples.{sample_inputs, TellsSampled}
use Rattle.bx_engine.specs.Tasks.{Inputs}
use Rattle.bx_engine.specs.Texts.{AreRefused, IsRefused, IsTaken, IsRefusedLibrary, IsTakenLibrary, network_of}
use Rattle.bx_engine.specs.Verdicts.{status_for, verdict_text}

-- ---- one file

-- its text is taken as this
pub record Holds (A : Type 0) (Takes : Text → A → Type 0) (file : Option Text) (value : A) : Type 0 where
  pub text : Text
  pub is : file ≡ Some text
  pub taken : Takes text value

-- its text is refused for this
pub record IsBad (Refuses : Text → InputFault → Type 0) (file : Option Text) (fault : InputFault) : Type 0 where
  pub text : Text
  pub is : file ≡ Some text
  pub why : Refuses text fault

abbrev pub HoldsModule : Inputs → ModuleTree → Type 0
HoldsModule inputs m = Holds ModuleTree IsTaken inputs.net m

abbrev pub HoldsLibrary : Inputs → Tiles → Type 0
HoldsLibrary inputs lib = Holds Tiles IsTakenLibrary inputs.lib lib

abbrev pub HoldsDesign : Inputs → Drawing → Type 0
HoldsDesign inputs drawing = Holds Drawing IsTakenDesign inputs.design drawing

abbrev pub HoldsCert : Inputs → Certificate → Type 0
HoldsCert inputs cert = Holds Certificate IsTakenCert inputs.cert cert

-- ---- to extract

-- the library is refused, or where it is taken the design, or where both are what the design's dots are cut into
pub data IsUnextracted (inputs : Inputs) (fault : InputFault) : Type 0 where
  bad_library : IsBad IsRefusedLibrary inputs.lib fault → IsUnextracted inputs fault
  bad_design : (lib : Tiles) → HoldsLibrary inputs lib → IsBad IsRefusedDesign inputs.design fault
      → IsUnextracted inputs fault
  uncut : (lib : Tiles) (drawing : Drawing) → HoldsLibrary inputs lib → HoldsDesign inputs drawing
      → IsRefusedCut lib drawing fault → IsUnextracted inputs fault

-- library and design are taken, and the design's dots are cut into this grid
pub record IsExtracted (inputs : Inputs) (grid : FormGrid) : Type 0 where
  pub lib : Tiles
  pub library : HoldsLibrary inputs lib
  pub drawing : Drawing
  pub design : HoldsDesign inputs drawing
  pub cut : IsCut lib drawing.ratio drawing.dots grid

-- the grid is told
pub record TellsExtracted (inputs : Inputs) (status : Status) (said : Text) : Type 0 where
  pub grid : FormGrid
  pub extracted : IsExtracted inputs grid
  pub done : status ≡ Done
  pub tells : TellsGrid grid said

-- ---- to verify

-- the module is refused, or where it is taken the library, then the design, and then the certificate
pub data IsUnjudged (inputs : Inputs) (fault : InputFault) : Type 0 where
  by_net : IsBad IsRefused inputs.net fault → IsUnjudged inputs fault
  by_lib : (m : ModuleTree) → HoldsModule inputs m → IsBad IsRefusedLibrary inputs.lib fault
      → IsUnjudged inputs fault
  by_design : (m : ModuleTree) (lib : Tiles) → HoldsModule inputs m → HoldsLibrary inputs lib
      → IsBad IsRefusedDesign inputs.design fault → IsUnjudged inputs fault
  by_cert : (m : ModuleTree) (lib : Tiles) (drawing : Drawing) → HoldsModule inputs m
      → HoldsLibrary inputs lib → HoldsDesign inputs drawing → IsBad IsRefusedCert inputs.cert fault
      → IsUnjudged inputs fault

-- all four are taken, as these
pub record AreHeld (inputs : Inputs) (m : ModuleTree) (lib : Tiles) (drawing : Drawing)
    (cert : Certificate) : Type 0 where
  pub net : HoldsModule inputs m
  pub library : HoldsLibrary inputs lib
  pub design : HoldsDesign inputs drawing
  pub certificate : HoldsCert inputs cert

-- they are judged, the verdict is told, and it means what it says
pub record TellsJudged (inputs : Inputs) (status : Status) (said : Text) : Type 0 where
  pub m : ModuleTree
  pub lib : Tiles
  pub drawing : Drawing
  pub cert : Certificate
  pub held : AreHeld inputs m lib drawing cert
  pub verdict : Verdict
  pub judged : IsVerdict (network_of m) lib drawing cert verdict
  pub means : Means (net_of m) lib drawing cert verdict
  pub status_is : status ≡ status_for verdict
  pub printed : said ≡ verdict_text cert verdict

-- ---- each job

abbrev pub IsRefusedFor : Job → Inputs → InputFault → Type 0
IsRefusedFor (extracts lib design) inputs fault = IsUnextracted inputs fault
IsRefusedFor (verifies net lib design cert) inputs fault = IsUnjudged inputs fault
IsRefusedFor (samples number gates extra) inputs fault = AreRefused (sample_inputs number gates extra) fault

abbrev pub IsTold : Job → Inputs → Status → Text → Type 0
IsTold (extracts lib design) inputs status said = TellsExtracted inputs status said
IsTold (verifies net lib design cert) inputs status said = TellsJudged inputs status said
IsTold (samples number gates extra) inputs status said = TellsSampled number gates extra status said
