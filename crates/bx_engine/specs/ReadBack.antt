-- What a search wrote is read back, beside what it was made of.
use Rattle.std.specs.Prelude.{◌≡◌, Some}
use Rattle.bx_library.specs.Tiles.{Tiles}
use Rattle.bx_syntax.specs.Parts.{ModuleTree}
use Rattle.bx_verilog.specs.Formulas.{Text}
use Rattle.bx_engine.specs.Designs.{IsShortDesign, IsShortCert}
use Rattle.bx_engine.specs.Tasks.{Inputs}
use Rattle.bx_engine.specs.Texts.{AreTaken}

-- the module and the library are read again, and the two files, which aren't too long to be read
pub record AreReadBack (inputs : Inputs) (m : ModuleTree) (lib : Tiles) (design cert : Text) : Type 0 where
  pub taken : AreTaken inputs m lib
  pub design_is : inputs.design ≡ Some design
  pub short_design : IsShortDesign design
  pub cert_is : inputs.cert ≡ Some cert
  pub short_cert : IsShortCert cert
