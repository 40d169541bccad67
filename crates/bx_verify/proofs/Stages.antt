-- What is known once a part doesn't fail, and what follows once none does.
use Rattle.std.proofs.Common.{◌≡◌, ℕ, ◌<◌, ◌≤◌, List, Option, length, Some, Ok, Err, inl, inr, refl, sym, ap, ◌∙◌, subst, get_or, arith}
use Rattle.std.specs.Prelude.{Result, slice_get}
use Rattle.std.proofs.lemmas.Bool.{cases_lt}
use Rattle.std.proofs.lemmas.Option.{get_or_from_slice_get, slice_get_within}
use Rattle.bx_bounds.specs.Numbers.{IsLeast}
use Rattle.bx_cert.specs.Certs.{Certificate}
use Rattle.bx_cert.specs.declared.parts.CertLast.{CertLast}
use Rattle.bx_cert.specs.declared.parts.Section.{Section}
use Rattle.bx_cert.specs.declared.parts.Spot.{Spot}
use Rattle.bx_dots.specs.Cuts.{IsCut, MayStand}
use Rattle.bx_dots.specs.declared.fault.CutFault.{CutFault}
use Rattle.bx_dots.proofs.Cutting.{one_gift}
use Rattle.bx_grid.specs.Orders.{AreLimits, IsWithin, Precedes, order}
use Rattle.bx_grid.specs.Tiles.{IsGrid, tile_count}
use Rattle.bx_grid.specs.declared.ratio.Limits.{Limits}
use Rattle.bx_grid.specs.declared.ratio.Ratio.{Ratio}
use Rattle.bx_grid.proofs.Orders.{order_is_ascending, order_is_exact}
use Rattle.bx_layout.specs.Grids.{FormGrid, form_at}
use Rattle.bx_layout.specs.Legal.{IsPermitted}
use Rattle.bx_layout.specs.TileForms.{IsFormGridOf}
use Rattle.bx_library.specs.Tiles.{Tiles, IsLibrary}
use Rattle.bx_network.specs.Networks.{Network, IsNetwork}
use Rattle.bx_refutes.specs.Refutations.{IsRefutedBy, AreSections}
use Rattle.bx_refutes.proofs.Lacking.{sections-lack}
use Rattle.bx_siqad.specs.Designs.{Drawing}
use Rattle.bx_verify.specs.Failing.{IsFoundAt, OfFound, IsOff, IsUnproved, IsUncut, Fits, Fails, FitsNot, NoneBefore, NoneFails, named, tiles_of}
use Rattle.bx_verify.specs.Meaning.{IsLaidOut, NoneIsEarlier}
use Rattle.bx_dots.specs.Permits.{permit_of}
use Rattle.bx_verify.specs.Sections.{AreSmall}
use Rattle.bx_verify.specs.declared.verdict.Part.TheVariants as part
use Rattle.bx_verify.proofs.Offs.{each-is, end-is}
use Rattle.bx_verify.proofs.Parts.{none-at-first, none-more, none-at-all}
use Rattle.bx_verify.proofs.Permits.{offered-allowed}

-- dots that are cut into a form grid have nothing in the way of one, and are cut into no other
cut-fine : (lib : Tiles) (r : Ratio) (design : Drawing) (g : FormGrid) → IsLibrary lib → IsCut lib r design.dots g → ¬ IsUncut lib r design.dots
cut-fine lib r design g library cut (fault, refused) =
    let R : Type 0 = Result FormGrid CutFault in
    let one : R = Ok g in
    let other : R = Err fault in
    let same : one ≡ other = one_gift lib r design.dots one other library cut refused in
    absurd (cc)

cut-once : (lib : Tiles) (r : Ratio) (design : Drawing) (g h : FormGrid) → IsLibrary lib → IsCut lib r design.dots g → IsCut lib r design.dots h → g ≡ h
cut-once lib r design g h library cut own =
    let R : Type 0 = Result FormGrid CutFault in
    let one : R = Ok g in
    let other : R = Ok h in
    let same : one ≡ other = one_gift lib r design.dots one other library cut own in
    cc

-- a ratio of the order is a grid, and has no more tiles than a limit allows
within-small : (limits : Limits) (r : Ratio) → AreLimits limits → IsWithin limits r → IsGrid r × (tile_count r ≤ 144)
within-small limits r are within =
    let area : tile_count r ≤ limits.area = within.area in
    let most : limits.area ≤ 144 = are.area in
    (record { wide = within.wide; high = within.high; small = omega (arith, area, most) }, omega (arith, area, most))

-- no ratio precedes itself, so one stands in the order once
once : (r : Ratio) → Precedes r r → ⊥
once r (inl less) = omega (arith, less)
once r (inr (same, less)) = omega (arith, less)

not-before : (limits : Limits) (i j : ℕ) (r : Ratio) → slice_get (order limits) i ≡ Some r → slice_get (order limits) j ≡ Some r → i < j → ⊥
not-before limits i j r at here less =
    let p = order_is_ascending limits i j r less (slice_get_within (order limits) j r here) in
    let q : Precedes r (get_or (order limits) j r) = subst (λ (x : Ratio). Precedes x (get_or (order limits) j r)) (get_or_from_slice_get (order limits) i r r at) p in
    once r (subst (λ (x : Ratio). Precedes r x) (get_or_from_slice_get (order limits) j r r here) q)

module _ (N : Network) (lib : Tiles) (design : Drawing) (cert : Certificate) (r : Ratio) (spots : List Spot) (claimed : IsFoundAt cert.last r spots) where
  in-found : (P : Ratio → List Spot → Type 0) → P r spots → OfFound cert.last P
  in-found P p = subst (λ (last : CertLast). OfFound last P) (sym claimed) p

  out-found : (P : Ratio → List Spot → Type 0) → OfFound cert.last P → P r spots
  out-found P p = subst (λ (last : CertLast). OfFound last P) claimed p

  abbrev Off : Ratio → ℕ → Type 0
  Off q = IsOff (order cert.limits) (named cert.sections q)

  pub past-last : NoneBefore N lib design cert 1
  past-last = none-more N lib design cert part.Last (none-at-first N lib design cert) (λ k fails. fails.0 (in-found (λ q places. Unit {0}) tt))

  pub missing-fails : (k : ℕ) → IsLeast (Off r) (Some k) → Fails N lib design cert part.Missing k
  missing-fails k least = in-found (λ q places. IsLeast (Off q) (Some k)) least

  pub past-missing : ((k : ℕ) → ¬ Off r k) → NoneBefore N lib design cert 2
  past-missing none = none-more N lib design cert part.Missing past-last (λ k fails. none k (out-found (λ q places. IsLeast (Off q) (Some k)) fails).0)

  pub past-proof : ((k : ℕ) → ¬ Off r k) → ((k : ℕ) → ¬ IsUnproved N (permit_of lib) cert.sections k) → NoneBefore N lib design cert 3
  past-proof none fine = none-more N lib design cert part.Proof (past-missing none) (λ k fails. fine k fails.0)

  pub size-fails : ¬ (design.ratio ≡ r) → Fails N lib design cert part.Size (length cert.sections)
  size-fails other = (in-found (λ q places. ¬ (design.ratio ≡ q)) other, refl)

  pub past-size : NoneBefore N lib design cert 3 → design.ratio ≡ r → NoneBefore N lib design cert 4
  past-size before same = none-more N lib design cert part.Size before (λ k fails. out-found (λ q places. ¬ (design.ratio ≡ q)) fails.0 same)

  module _ (g : FormGrid) (library : IsLibrary lib) (cut : IsCut lib design.ratio design.dots g) where
    pub past-dots : NoneBefore N lib design cert 4 → NoneBefore N lib design cert 5
    past-dots before = none-more N lib design cert part.Dots before (λ k fails. cut-fine lib design.ratio design g library cut fails.0)

    pub network-fails : ¬ Fits N g spots → Fails N lib design cert part.Network (length cert.sections)
    network-fails other = (
      in-found (λ q places. FitsNot N lib design cert places) (λ h own fits. other (subst (λ (x : FormGrid). Fits N x spots) (cut-once lib design.ratio design h g library own cut) fits)),
      refl,
    )

    pub past-network : Fits N g spots → NoneBefore N lib design cert 5 → NoneFails N lib design cert
    past-network fits before =
        let none : NoneBefore N lib design cert 6 = none-more N lib design cert part.Network before (λ k fails. out-found (λ q places. FitsNot N lib design cert places) fails.0 g cut fits) in
        none-at-all N lib design cert none

  -- ---- what follows

  pub found-is : OfFound cert.last (λ found places. found ≡ r)
  found-is = in-found (λ found places. found ≡ r) refl

  module _ (limits : AreLimits cert.limits) (none : (k : ℕ) → ¬ Off r k) where
    pub are-small : AreSmall cert.sections
    are-small k s at =
        let here = each-is cert.sections r (order cert.limits) none k s at in
        within-small cert.limits s.ratio limits ((order_is_exact cert.limits s.ratio).0 (k, slice_get_within (order cert.limits) k s.ratio here, get_or_from_slice_get (order cert.limits) k s.ratio s.ratio here))

    pub none-earlier : IsNetwork N → ((k : ℕ) (s : Section) → slice_get cert.sections k ≡ Some s → IsRefutedBy N (permit_of lib) s.ratio s.proof) → NoneIsEarlier N lib design cert r
    none-earlier network proved =
        let at = end-is cert.sections r (order cert.limits) none in
        let sections : AreSections N (permit_of lib) (order cert.limits) cert.sections = λ k s own. (each-is cert.sections r (order cert.limits) none k s own, proved k s own) in
        record {
          at = at;
          sections = sections;
          lacking = λ earlier before.
              let low : before.index < length cert.sections = elim (cases_lt before.index (length cert.sections)) [
                | inl less ↦ less
                | inr high ↦ let less = before.before in absurd (not-before cert.limits (length cert.sections) before.own r at before.is_own (omega (arith, high, less)))
              ] in
              sections-lack N (permit_of lib) (order cert.limits) cert.sections network sections before.index earlier low before.is;
        }

  module _ (g : FormGrid) (sides : design.ratio ≡ r) (cut : IsCut lib design.ratio design.dots g) (fits : Fits N g spots) where
    here : g.ratio ≡ r
    here = cut.ratio ∙ sides

    -- the form grid is that of the layout, on each tile
    whole-forms : IsFormGridOf N fits.traced.layout g
    whole-forms = let forms = fits.traced.forms in record {
      ratio = forms.ratio;
      whole = cut.whole ∙ ap (λ (q : Ratio). tile_count q) (sym cut.ratio ∙ forms.ratio);
      each = forms.each;
    }

    -- each form that is cut is offered
    permitted : IsPermitted N (permit_of lib) fits.traced.layout
    permitted t form inside has =
        let forms = fits.traced.forms in
        let at : form_at g t ≡ Some form = (forms.each t form inside).1 has in
        let same : fits.traced.layout.ratio ≡ design.ratio = sym forms.ratio ∙ cut.ratio in
        let reads = cut.tiles t (subst (λ (q : Ratio). t < tile_count q) same inside) in
        let stands : MayStand lib design.ratio t (Some form) = subst (λ (o : Option ℕ). MayStand lib design.ratio t o) at reads.stands in
        offered-allowed lib fits.traced.layout.ratio t form stands.0

    pub laid-out : IsLaidOut N lib design cert r
    laid-out = let legal = fits.traced.legal in record {
      spots = spots;
      claimed = claimed;
      sides = sides;
      grid = g;
      cut = subst (λ (q : Ratio). IsCut lib q design.dots g) sides cut;
      layout = fits.traced.layout;
      places = fits.traced.stands ∙ ap (λ (q : Ratio). tiles_of q spots) here;
      legal = record {
        grid = legal.grid;
        placed = legal.placed;
        ends = legal.ends;
        stays = legal.stays;
        balanced = legal.balanced;
        alone = legal.alone;
        permitted = permitted;
      };
      forms = whole-forms;
    }
