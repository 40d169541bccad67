-- The permit of a library, what may be drawn of what was found under it, and that a budget is at most the work that it
-- makes.
use Rattle.std.proofs.Common.{◌≡◌, ℕ, ◌*◌, ◌≤◌, List, Bool, true, false, Option, Some, length, refl, sym, ◌∙◌, subst, arith}
use Rattle.std.specs.Prelude.{◌↔◌, IfSome, slice_get}
use Rattle.std.proofs.Math.Nat.{mul-le-mul_left}
use Rattle.std.proofs.lemmas.Bool.{ltb-true, lt-ltb}
use Rattle.bx_cert.specs.Certs.{Certificate}
use Rattle.bx_cert.specs.declared.parts.CertLast.{CertLast}
use Rattle.bx_cert.specs.declared.parts.CertLast.TheVariants as told
use Rattle.bx_design.proofs.Agreeing.{solution-same}
use Rattle.bx_design.proofs.Minimal.{within-at}
use Rattle.bx_design.specs.Meaning.{IsMinimal, IsLaidOut, IsEndAt}
use Rattle.bx_design.specs.Solutions.{IsSolution}
use Rattle.bx_design.specs.declared.solution.LaidOut.{LaidOut}
use Rattle.bx_dots.specs.GridDots.{AreOffered}
use Rattle.bx_dots.specs.Permits.{permit_of}
use Rattle.bx_forms.specs.FormSets.{IsIn}
use Rattle.bx_grid.proofs.Orders.{order_is_exact}
use Rattle.bx_grid.specs.Orders.{AreLimits, IsRatio, order}
use Rattle.bx_grid.specs.Tiles.{IsTile}
use Rattle.bx_grid.specs.declared.ratio.Limits.{Limits}
use Rattle.bx_grid.specs.declared.ratio.Ratio.{Ratio}
use Rattle.bx_layout.specs.Permits.{PermitTest, Allows, test_of}
use Rattle.bx_library.specs.Tiles.{Tiles, IsOffered, form_dots}
use Rattle.bx_network.specs.Networks.{Network}
use Rattle.bx_engine.specs.Steps.{CanBeDrawn}

-- ---- forms

-- the permit of a library allows what it offers
pub allowed-offered : (lib : Tiles) (r : Ratio) (t form : ℕ) → Allows (permit_of lib) r t form → IsOffered lib form
allowed-offered lib r t form h = ltb-true 0 (length (form_dots lib form)) h

same-truth : (a b : Bool) → (a ≡ true → b ≡ true) → (b ≡ true → a ≡ true) → a ≡ b
same-truth true b f g = sym (f refl)
same-truth false true f g = g refl
same-truth false false f g = refl

module _ (lib : Tiles) (forms set : List Bool) (offers : (form : ℕ) → IsIn set form ↔ IsOffered lib form)
    (allowed : (ratio : Ratio) (t form : ℕ) → Allows (test_of forms) ratio t form ↔ IsIn set form) where
  -- a permit of the forms that are offered is that of the library
  same-permit : (r : Ratio) (t form : ℕ) → test_of forms r t form ≡ permit_of lib r t form
  same-permit r t form =
      same-truth (test_of forms r t form) (permit_of lib r t form)
      (λ h. lt-ltb 0 (length (form_dots lib form)) ((offers form).0 ((allowed r t form).0 h)))
      (λ h. (allowed r t form).1 ((offers form).1 (allowed-offered lib r t form h)))

  pub library-solution : (N : Network) (limits : Limits) (budget : ℕ) (cert : Certificate) (found : Option LaidOut)
      → IsSolution N (test_of forms) limits budget cert found → IsSolution N (permit_of lib) limits budget cert found
  library-solution N limits budget cert found is = solution-same N (test_of forms) (permit_of lib) (λ r t form known. same-permit r t form) limits budget cert found is

  pub set-offered : (r : Ratio) (t form : ℕ) → Allows (test_of forms) r t form → IsOffered lib form
  set-offered r t form h = (offers form).0 ((allowed r t form).0 h)

-- ---- what was found

-- a ratio within limits has sides that a design may have
design-ratio : (limits : Limits) (k : ℕ) (r : Ratio) → AreLimits limits → slice_get (order limits) k ≡ Some r → IsRatio r
design-ratio limits k r are at =
    let within = within-at limits k r at in
    record {
      some_width = within.wide;
      some_height = within.high;
      width = omega (arith, within.width, are.width);
      height = omega (arith, within.height, are.height);
    }

module _ (N : Network) (permit : PermitTest) (lib : Tiles) (offered : (r : Ratio) (t form : ℕ) → Allows permit r t form → IsOffered lib form) (limits : Limits) (are : AreLimits limits) where
  -- a layout of permitted forms has offered ones
  pub laid-offered : (laid : LaidOut) → IsLaidOut N permit laid → AreOffered lib laid.grid
  laid-offered laid is t form inside at =
      let here : IsTile laid.layout.ratio t = subst (λ (r : Ratio). IsTile r t) is.forms.ratio inside in
      offered laid.layout.ratio t form (is.legal.permitted t form here ((is.forms.each t form here).0 at))

  drawable-at : (k : ℕ) (budget : ℕ) (last : CertLast) (found : Option LaidOut) → IsEndAt N permit limits budget k last found → IfSome found (CanBeDrawn lib)
  drawable-at k budget (told.Found r spots) found (at, with) =
      subst (λ (o : Option LaidOut). IfSome o (CanBeDrawn lib)) (sym with.found_is) (record {
        offered = laid-offered with.laid with.is;
        ratio = subst IsRatio (sym (with.is.forms.ratio ∙ with.sides)) (design-ratio limits k r are at);
      })
  drawable-at k budget (told.Undecided r spent) found (at, none, verdict) = subst (λ (o : Option LaidOut). IfSome o (CanBeDrawn lib)) (sym none) tt
  drawable-at k budget told.NoneWithin found (over, none) = subst (λ (o : Option LaidOut). IfSome o (CanBeDrawn lib)) (sym none) tt

  pub drawable : (budget : ℕ) (cert : Certificate) (found : Option LaidOut) → IsMinimal N permit limits budget cert found → IfSome found (CanBeDrawn lib)
  drawable budget cert found is = drawable-at (length cert.sections) budget cert.last found is.end_at

-- ---- work

-- there is a ratio within limits
some_ratio : (limits : Limits) → AreLimits limits → 1 ≤ length (order limits)
some_ratio limits are =
    let one : Ratio = record { w = 1; h = 1 } in
    let at = (order_is_exact limits one).1 (record { wide = omega arith; high = omega arith; area = omega (arith, are.some_area); width = are.some_width; height = are.some_height }) in
    let low = at.1 in
    omega arith

-- so a budget is at most the work
pub small-budget : (limits : Limits) (budget work : ℕ) → AreLimits limits → budget * length (order limits) ≤ work → budget ≤ work
small-budget limits budget work are few =
    let some = some_ratio limits are in
    let more = mul-le-mul_left budget some in
    omega arith
