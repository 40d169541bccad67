-- What is read to be looked at: the text of a design or of a certificate, refused for its first bad line, or taken; and
-- the dots of a design, cut by a library, or refused for what is in the way of that.
use Rattle.std.specs.Prelude.{◌≡◌, ◌<◌, ◌≤◌, length, Err}
use Rattle.bx_cert.specs.Certs.{Certificate}
use Rattle.bx_cert.specs.Texts.{IsCertText, IsTextOf as IsTextOfCert}
use Rattle.bx_cert.specs.declared.fault.CertFault.TheVariants.{BadCert}
use Rattle.bx_dots.specs.Cuts.{CutsTo}
use Rattle.bx_library.specs.Tiles.{Tiles}
use Rattle.bx_lines.specs.Lines.{IsFirstBadLine}
use Rattle.bx_siqad.specs.Designs.{Drawing}
use Rattle.bx_siqad.specs.Texts.{IsDesignText, IsTextOf}
use Rattle.bx_siqad.specs.declared.fault.DesignFault.TheVariants.{BadDesign}
use Rattle.bx_verilog.specs.Formulas.{Text}
use Rattle.bx_engine.specs.declared.limits.TheConstants.{DESIGN_BYTES, CERT_BYTES}
use Rattle.bx_engine.specs.declared.status.InputFault.{InputFault}
use Rattle.bx_engine.specs.declared.status.InputFault.TheVariants.{TooLong, Design, Cut, Cert}
use Rattle.bx_engine.specs.declared.status.Which.TheVariants.{DesignFile, CertFile}

-- ---- the design

abbrev pub IsShortDesign : Text → Type 0
IsShortDesign text = length text ≤ DESIGN_BYTES

-- the text of a design is refused for this
abbrev pub IsRefusedDesign : Text → InputFault → Type 0
IsRefusedDesign text (TooLong which) = (which ≡ DesignFile) × (DESIGN_BYTES < length text)
IsRefusedDesign text (Design (BadDesign line)) =
    IsShortDesign text × IsFirstBadLine IsDesignText text line
IsRefusedDesign text _ = ⊥

-- the text is taken as this design
pub record IsTakenDesign (text : Text) (drawing : Drawing) : Type 0 where
  pub short : IsShortDesign text
  pub is : IsTextOf drawing text

-- ---- its dots

-- a design is refused for what is first in the way of cutting its dots by this library
abbrev pub IsRefusedCut : Tiles → Drawing → InputFault → Type 0
IsRefusedCut lib drawing (Cut fault ratio) =
    (ratio ≡ drawing.ratio) × CutsTo lib drawing.ratio drawing.dots (Err fault)
IsRefusedCut lib drawing _ = ⊥

-- ---- the certificate

abbrev pub IsShortCert : Text → Type 0
IsShortCert text = length text ≤ CERT_BYTES

-- the text of a certificate is refused for this
abbrev pub IsRefusedCert : Text → InputFault → Type 0
IsRefusedCert text (TooLong which) = (which ≡ CertFile) × (CERT_BYTES < length text)
IsRefusedCert text (Cert (BadCert line)) = IsShortCert text × IsFirstBadLine IsCertText text line
IsRefusedCert text _ = ⊥

-- the text is taken as this certificate
pub record IsTakenCert (text : Text) (cert : Certificate) : Type 0 where
  pub short : IsShortCert text
  pub is : IsTextOfCert cert text
