-- A network has one solution.
use Rattle.std.proofs.Common.{◌≡◌, ℕ, Bool, List, Option, Some, length, sym, ap, ap₂, ◌∙◌, subst}
use Rattle.std.proofs.lemmas.Option.{same_Some}
use Rattle.bx_cert.specs.Certs.{Certificate}
use Rattle.bx_cert.specs.declared.parts.CertLast.{CertLast}
use Rattle.bx_cert.specs.declared.parts.CertLast.TheVariants as told
use Rattle.bx_decode.specs.Meaning.{Means}
use Rattle.bx_decode.proofs.Once.{means-one}
use Rattle.bx_grid.specs.Orders.{order}
use Rattle.bx_grid.specs.declared.ratio.Limits.{Limits}
use Rattle.bx_grid.specs.declared.ratio.Ratio.{Ratio}
use Rattle.bx_layout.specs.Grids.{FormGrid}
use Rattle.bx_layout.specs.Permits.{PermitTest}
use Rattle.bx_layout.specs.TileForms.{IsFormGridOf}
use Rattle.bx_layout.specs.declared.layout.Layout.{Layout}
use Rattle.bx_network.specs.Networks.{Network}
use Rattle.bx_proof.specs.declared.refutation.Refutation.{Refutation}
use Rattle.bx_verdict.proofs.InOrder.{one-way}
use Rattle.bx_verdict.specs.declared.settled.Last.{Last}
use Rattle.bx_verdict.specs.declared.settled.Last.TheVariants.{Found, Undecided, NoneWithin}
use Rattle.bx_design.specs.declared.solution.LaidOut.{LaidOut}
use Rattle.bx_design.specs.Certificates.{spots_of, certificate_of}
use Rattle.bx_design.specs.Solutions.{IsTold, IsToldFound, IsSolution}
use Rattle.bx_design.proofs.Grids.{one-grid}

module _ (N : Network) (ratios : List Ratio) (k : ℕ) where
  one-laid : (bits : List Bool) (a b : CertLast) (x y : Option LaidOut) → IsToldFound N ratios k bits a x → IsToldFound N ratios k bits b y → (a ≡ b) × (x ≡ y)
  one-laid bits a b x y p q =
      let sides : p.ratio ≡ q.ratio = same_Some p.ratio q.ratio (sym p.at ∙ q.at) in
      let same : p.laid.layout ≡ q.laid.layout =
      means-one N q.ratio bits p.laid.layout q.laid.layout (subst (λ (r : Ratio). Means N r bits p.laid.layout) sides p.means) q.means in
      let grids : p.laid.grid ≡ q.laid.grid =
      one-grid N q.laid.layout p.laid.grid q.laid.grid (subst (λ (K : Layout). IsFormGridOf N K p.laid.grid) same p.forms) q.forms in
      let laid : p.laid ≡ q.laid = ap₂ (λ (K : Layout) (g : FormGrid). record { layout = K; grid = g }) same grids in (
        p.told_is ∙ ap₂ (λ (r : Ratio) (K : Layout). told.Found r (spots_of K)) sides same ∙ sym q.told_is,
        p.found_is ∙ ap Some laid ∙ sym q.found_is,
      )

  one-told : (last : Last) (a b : CertLast) (x y : Option LaidOut) → IsTold N ratios k last a x → IsTold N ratios k last b y → (a ≡ b) × (x ≡ y)
  one-told (Found bits) a b x y p q = one-laid bits a b x y p q
  one-told (Undecided spent) a b x y p q =
      let sides : p.0.ratio ≡ q.0.ratio = same_Some p.0.ratio q.0.ratio (sym p.0.at ∙ q.0.at) in
      (p.0.told_is ∙ ap (λ (r : Ratio). told.Undecided r spent) sides ∙ sym q.0.told_is, p.1 ∙ sym q.1)
  one-told NoneWithin a b x y p q = (p.0 ∙ sym q.0, p.1 ∙ sym q.1)

pub one-solution : (N : Network) (permit : PermitTest) (limits : Limits) (budget : ℕ) (cert other : Certificate) (found last : Option LaidOut)
    → IsSolution N permit limits budget cert found → IsSolution N permit limits budget other last → (cert ≡ other) × (found ≡ last)
one-solution N permit limits budget cert other found last a b =
    let same = one-way N permit budget (order limits) a.proofs b.proofs a.last b.last a.settled b.settled in
    let here : IsTold N (order limits) (length b.proofs) a.last cert.last found =
    subst (λ (ps : List Refutation). IsTold N (order limits) (length ps) a.last cert.last found) same.0 a.tells in
    let tells : IsTold N (order limits) (length b.proofs) b.last cert.last found =
    subst (λ (l : Last). IsTold N (order limits) (length b.proofs) l cert.last found) same.1 here in
    let ends = one-told N (order limits) (length b.proofs) b.last cert.last other.last found last tells b.tells in
    (a.certified ∙ ap₂ (λ (ps : List Refutation) (l : CertLast). certificate_of limits budget ps l) same.0 ends.0 ∙ sym b.certified, ends.1)
