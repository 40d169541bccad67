-- Each text of a design or of a certificate is refused for one fault or taken as one thing, and each design is cut or
-- refused.
use Rattle.std.proofs.Common.{◌≡◌, ◌*◌, ◌<◌, ◌≤◌, ◌⊎◌, inl, inr, ℕ, length, Result, Ok, Err, refl, sym, ◌∙◌, ap, subst, arith}
use Rattle.std.proofs.Math.Nat.{mul-le-mul}
use Rattle.std.proofs.lemmas.Bool.{cases_lt}
use Rattle.bx_cert.specs.Certs.{Certificate}
use Rattle.bx_cert.specs.Texts.{IsCertText, IsTextOf as IsTextOfCert}
use Rattle.bx_cert.specs.declared.fault.CertFault.TheVariants.{BadCert, NoMemory as NoMemoryForCert}
use Rattle.bx_cert.proofs.Deciding.{some_cert}
use Rattle.bx_cert.proofs.Leading.{one_cert}
use Rattle.bx_dots.specs.Cuts.{CutsTo, IsCut}
use Rattle.bx_dots.specs.declared.fault.CutFault.{CutFault}
use Rattle.bx_dots.proofs.Cutting.{one_gift}
use Rattle.bx_dots.proofs.Decided.{some-cut}
use Rattle.bx_grid.specs.Orders.{IsRatio}
use Rattle.bx_grid.specs.Tiles.{IsGrid}
use Rattle.bx_grid.specs.declared.ratio.Ratio.{Ratio}
use Rattle.bx_layout.specs.Grids.{FormGrid}
use Rattle.bx_library.specs.Tiles.{Tiles, IsLibrary}
use Rattle.bx_lines.specs.Lines.{IsFirstBadLine}
use Rattle.bx_lines.proofs.BadLines.{one_bad_line, no_bad_line}
use Rattle.bx_siqad.specs.Designs.{Drawing, IsDrawing}
use Rattle.bx_siqad.specs.Texts.{IsDesignText, IsTextOf}
use Rattle.bx_siqad.specs.declared.fault.DesignFault.TheVariants.{BadDesign, NoMemory as NoMemoryForDesign}
use Rattle.bx_siqad.proofs.Deciding.{some_reading}
use Rattle.bx_siqad.proofs.OneDesign.{one_design}
use Rattle.bx_verilog.specs.Formulas.{Text}
use Rattle.bx_engine.specs.declared.status.InputFault.{InputFault}
use Rattle.bx_engine.specs.declared.status.InputFault.TheVariants.{TooLong, Lex, Read, Net, Constant, Nodes, Library, Design, Cut, Cert}
use Rattle.bx_engine.specs.declared.status.Which.{Which}
use Rattle.bx_engine.specs.declared.status.Which.TheVariants.{DesignFile, CertFile}
use Rattle.bx_engine.specs.Designs.{IsShortDesign, IsRefusedDesign, IsTakenDesign, IsRefusedCut, IsShortCert, IsRefusedCert, IsTakenCert}

-- ---- texts that are refused at a line, or are too long

-- the two ways in which the text of a design is refused
data IsBadDesign (text : Text) : InputFault → Type 0 where
  is_long : 16777216 < length text → IsBadDesign text (TooLong DesignFile)
  is_faulty : (line : ℕ) → IsShortDesign text → IsFirstBadLine IsDesignText text line → IsBadDesign text (Design (BadDesign line))

module _ (text : Text) where
  bad_design : (f : InputFault) → IsRefusedDesign text f → IsBadDesign text f
  bad_design (TooLong w) (is, long) = subst (λ (v : Which). IsBadDesign text (TooLong v)) (sym is) (is_long long)
  bad_design (Design (BadDesign line)) (short, bad) = is_faulty line short bad
  bad_design (Design NoMemoryForDesign) x = absurd x
  bad_design (Lex g) x = absurd x
  bad_design (Read g) x = absurd x
  bad_design (Net g) x = absurd x
  bad_design (Constant name) x = absurd x
  bad_design (Nodes count) x = absurd x
  bad_design (Library fault) x = absurd x
  bad_design (Cut fault ratio) x = absurd x
  bad_design (Cert fault) x = absurd x

  design_bad_once : (f g : InputFault) → IsBadDesign text f → IsBadDesign text g → f ≡ g
  design_bad_once _ _ (is_long l) (is_long m) = refl
  design_bad_once _ _ (is_long l) (is_faulty k short bad) = absurd (omega arith)
  design_bad_once _ _ (is_faulty k short bad) (is_long m) = absurd (omega arith)
  design_bad_once _ _ (is_faulty j short bad) (is_faulty k too also) =
      ap (λ (line : ℕ). Design (BadDesign line)) (one_bad_line IsDesignText text j k bad also)

  design_not_bad : (drawing : Drawing) (f : InputFault) → IsTakenDesign text drawing → IsBadDesign text f → ⊥
  design_not_bad drawing _ taken (is_long l) = let short = taken.short in omega arith
  design_not_bad drawing _ taken (is_faulty k short bad) = no_bad_line IsDesignText text k (drawing, taken.is) bad

pub design_refused_once : (text : Text) (f g : InputFault) → IsRefusedDesign text f → IsRefusedDesign text g → f ≡ g
design_refused_once text f g x y = design_bad_once text f g (bad_design text f x) (bad_design text g y)

pub design_not_both : (text : Text) (drawing : Drawing) (f : InputFault) → IsTakenDesign text drawing → IsRefusedDesign text f → ⊥
design_not_both text drawing f taken x = design_not_bad text drawing f taken (bad_design text f x)

pub one_drawing : (text : Text) (a b : Drawing) → IsTakenDesign text a → IsTakenDesign text b → a ≡ b
one_drawing text a b x y = one_design text a b x.is y.is

pub each_design : (text : Text) → ((fault : InputFault) × IsRefusedDesign text fault) ⊎ ((drawing : Drawing) × IsTakenDesign text drawing)
each_design text = elim (cases_lt 16777216 (length text)) [
  | inl long ↦ inl (TooLong DesignFile, (refl, long))
  | inr short ↦ (elim (some_reading text) [
    | inl (drawing, is) ↦ inr (drawing, record { short = short; is = is })
    | inr (line, bad) ↦ inl (Design (BadDesign line), (short, bad))
  ])
]

-- ---- certificates

-- the two ways in which the text of a certificate is refused
data IsBadCert (text : Text) : InputFault → Type 0 where
  is_long_cert : 1073741824 < length text → IsBadCert text (TooLong CertFile)
  is_faulty_cert : (line : ℕ) → IsShortCert text → IsFirstBadLine IsCertText text line → IsBadCert text (Cert (BadCert line))

module _ (text : Text) where
  bad_cert : (f : InputFault) → IsRefusedCert text f → IsBadCert text f
  bad_cert (TooLong w) (is, long) = subst (λ (v : Which). IsBadCert text (TooLong v)) (sym is) (is_long_cert long)
  bad_cert (Cert (BadCert line)) (short, bad) = is_faulty_cert line short bad
  bad_cert (Cert NoMemoryForCert) x = absurd x
  bad_cert (Lex g) x = absurd x
  bad_cert (Read g) x = absurd x
  bad_cert (Net g) x = absurd x
  bad_cert (Constant name) x = absurd x
  bad_cert (Nodes count) x = absurd x
  bad_cert (Library fault) x = absurd x
  bad_cert (Design fault) x = absurd x
  bad_cert (Cut fault ratio) x = absurd x

  cert_bad_once : (f g : InputFault) → IsBadCert text f → IsBadCert text g → f ≡ g
  cert_bad_once _ _ (is_long_cert l) (is_long_cert m) = refl
  cert_bad_once _ _ (is_long_cert l) (is_faulty_cert k short bad) = absurd (omega arith)
  cert_bad_once _ _ (is_faulty_cert k short bad) (is_long_cert m) = absurd (omega arith)
  cert_bad_once _ _ (is_faulty_cert j short bad) (is_faulty_cert k too also) =
      ap (λ (line : ℕ). Cert (BadCert line)) (one_bad_line IsCertText text j k bad also)

  cert_not_bad : (cert : Certificate) (f : InputFault) → IsTakenCert text cert → IsBadCert text f → ⊥
  cert_not_bad cert _ taken (is_long_cert l) = let short = taken.short in omega arith
  cert_not_bad cert _ taken (is_faulty_cert k short bad) = no_bad_line IsCertText text k (cert, taken.is) bad

pub cert_refused_once : (text : Text) (f g : InputFault) → IsRefusedCert text f → IsRefusedCert text g → f ≡ g
cert_refused_once text f g x y = cert_bad_once text f g (bad_cert text f x) (bad_cert text g y)

pub cert_not_both : (text : Text) (cert : Certificate) (f : InputFault) → IsTakenCert text cert → IsRefusedCert text f → ⊥
cert_not_both text cert f taken x = cert_not_bad text cert f taken (bad_cert text f x)

pub one_certificate : (text : Text) (a b : Certificate) → IsTakenCert text a → IsTakenCert text b → a ≡ b
one_certificate text a b x y = one_cert text a b x.is y.is

pub each_cert : (text : Text) → ((fault : InputFault) × IsRefusedCert text fault) ⊎ ((cert : Certificate) × IsTakenCert text cert)
each_cert text = elim (cases_lt 1073741824 (length text)) [
  | inl long ↦ inl (TooLong CertFile, (refl, long))
  | inr short ↦ (elim (some_cert text) [
    | inl (cert, is) ↦ inr (cert, record { short = short; is = is })
    | inr (line, bad) ↦ inl (Cert (BadCert line), (short, bad))
  ])
]

-- ---- cuts

module _ (lib : Tiles) (drawing : Drawing) where
  -- why a design isn't cut
  data IsBadCut : InputFault → Type 0 where
    is_uncut : (fault : CutFault) → CutsTo lib drawing.ratio drawing.dots (Err fault) → IsBadCut (Cut fault drawing.ratio)

  bad_cut : (f : InputFault) → IsRefusedCut lib drawing f → IsBadCut f
  bad_cut (Cut fault ratio) (same, cuts) = subst (λ (r : Ratio). IsBadCut (Cut fault r)) (sym same) (is_uncut fault cuts)
  bad_cut (TooLong w) x = absurd x
  bad_cut (Lex g) x = absurd x
  bad_cut (Read g) x = absurd x
  bad_cut (Net g) x = absurd x
  bad_cut (Constant name) x = absurd x
  bad_cut (Nodes count) x = absurd x
  bad_cut (Library fault) x = absurd x
  bad_cut (Design fault) x = absurd x
  bad_cut (Cert fault) x = absurd x

  cut_bad_once : (f g : InputFault) → IsLibrary lib → IsBadCut f → IsBadCut g → f ≡ g
  cut_bad_once _ _ is (is_uncut f cuts) (is_uncut g also) =
      let same : Err f ≡ Err g = one_gift lib drawing.ratio drawing.dots (Err f) (Err g) is cuts also in
      let one : f ≡ g = cc in
      ap (λ (x : CutFault). Cut x drawing.ratio) one

  cut_not_bad : (grid : FormGrid) (f : InputFault) → IsLibrary lib → IsCut lib drawing.ratio drawing.dots grid → IsBadCut f → ⊥
  cut_not_bad grid _ is cuts (is_uncut f also) =
      let lost : Ok grid ≡ Err f = one_gift lib drawing.ratio drawing.dots (Ok grid) (Err f) is cuts also in cc

pub cut_refused_once : (lib : Tiles) (drawing : Drawing) (f g : InputFault) → IsLibrary lib → IsRefusedCut lib drawing f → IsRefusedCut lib drawing g → f ≡ g
cut_refused_once lib drawing f g is x y = cut_bad_once lib drawing f g is (bad_cut lib drawing f x) (bad_cut lib drawing g y)

pub cut_not_both : (lib : Tiles) (drawing : Drawing) (grid : FormGrid) (f : InputFault) → IsLibrary lib → IsCut lib drawing.ratio drawing.dots grid → IsRefusedCut lib drawing f → ⊥
cut_not_both lib drawing grid f is cuts x = cut_not_bad lib drawing grid f is cuts (bad_cut lib drawing f x)

pub one_grid : (lib : Tiles) (drawing : Drawing) (a b : FormGrid) → IsLibrary lib → IsCut lib drawing.ratio drawing.dots a → IsCut lib drawing.ratio drawing.dots b → a ≡ b
one_grid lib drawing a b is x y =
    let same : Ok a ≡ Ok b = one_gift lib drawing.ratio drawing.dots (Ok a) (Ok b) is x y in cc

-- the sides of a design are those of a grid
grid_of : (r : Ratio) → IsRatio r → IsGrid r
grid_of r is =
    let most : r.w * r.h ≤ 144 * 144 = mul-le-mul is.width is.height in
    record { wide = is.some_width; high = is.some_height; small = omega (arith, most) }

module _ (lib : Tiles) (drawing : Drawing) where
  abbrev CutOrRefused : Type 0
  CutOrRefused = ((fault : InputFault) × IsRefusedCut lib drawing fault) ⊎ ((grid : FormGrid) × IsCut lib drawing.ratio drawing.dots grid)

  by_cut : (r : Result FormGrid CutFault) → CutsTo lib drawing.ratio drawing.dots r → CutOrRefused
  by_cut (Ok grid) cuts = inr (grid, cuts)
  by_cut (Err fault) cuts = inl (Cut fault drawing.ratio, (refl, cuts))

  pub each_cut : IsLibrary lib → IsDrawing drawing → CutOrRefused
  each_cut is draws =
      let cuts = some-cut lib drawing.ratio drawing.dots is (grid_of drawing.ratio draws.ratio) draws.ascending in
      by_cut cuts.0 cuts.1
