-- What was found is the least: no layout within the limits that has less area, or the same and less width, is legal.
use Rattle.std.proofs.Common.{◌≡◌, ℕ, ◌<◌, Some, length, get_or, inl, inr, refl, sym, ap, ◌∙◌, subst, arith}
use Rattle.std.specs.Prelude.{slice_get}
use Rattle.std.proofs.lemmas.Bool.{cases_lt}
use Rattle.std.proofs.lemmas.Option.{get_or_from_slice_get, slice_get-get_or, slice_get_within}
use Rattle.bx_cert.specs.declared.parts.CertLast.{CertLast}
use Rattle.bx_dots.specs.Permits.{permit_of}
use Rattle.bx_grid.specs.Orders.{IsWithin, Precedes, order}
use Rattle.bx_grid.specs.declared.ratio.Limits.{Limits}
use Rattle.bx_grid.specs.declared.ratio.Ratio.{Ratio}
use Rattle.bx_grid.proofs.Orders.{order_is_ascending, order_is_exact}
use Rattle.bx_layout.specs.Legal.{IsLegal}
use Rattle.bx_layout.specs.Permits.{PermitTest}
use Rattle.bx_layout.specs.declared.layout.Layout.{Layout}
use Rattle.bx_library.specs.Tiles.{Tiles}
use Rattle.bx_network.specs.Networks.{Network}
use Rattle.bx_syntax.specs.Parts.{ModuleTree}
use Rattle.bx_verilog.specs.Formulas.{Text}
use Rattle.bx_engine.specs.Tasks.{Task}
use Rattle.bx_engine.specs.Texts.{network_of}
use Rattle.bx_engine.specs.Worth.{IsEvidenceBefore, IsNoneWithin}

-- of two ratios one doesn't precede the other both ways
once : (r s : Ratio) → Precedes r s → Precedes s r → ⊥
once r s (inl a) (inl b) = omega arith
once r s (inl a) (inr (e, n)) = omega arith
once r s (inr (e, n)) (inl b) = omega arith
once r s (inr (e, n)) (inr (f, m)) = omega arith

module _ (limits : Limits) where
  at-some : (r : Ratio) → IsWithin limits r → (i : ℕ) × (slice_get (order limits) i ≡ Some r)
  at-some r within =
      let (i, low, e) = (order_is_exact limits r).1 within in
      (i, slice_get-get_or (order limits) i r low ∙ ap (λ (x : Ratio). Some x) e)

  -- a ratio that precedes another stands before it
  before : (k i : ℕ) (ratio r : Ratio) → slice_get (order limits) k ≡ Some ratio → slice_get (order limits) i ≡ Some r → Precedes r ratio → i < k
  before k i ratio r at here precedes = elim (cases_lt i k) [
    | inl less ↦ less
    | inr past ↦ elim (cases_lt k i) [
      | inl less ↦ (
          let p = order_is_ascending limits k i r less (slice_get_within (order limits) i r here) in
          let q : Precedes ratio (get_or (order limits) i r) = subst (λ (x : Ratio). Precedes x (get_or (order limits) i r)) (get_or_from_slice_get (order limits) k ratio r at) p in
          absurd (once r ratio precedes (subst (λ (x : Ratio). Precedes ratio x) (get_or_from_slice_get (order limits) i r r here) q))
          )
      | inr low ↦ (
          let same : i ≡ k = omega arith in
          let both : Some r ≡ Some ratio = sym here ∙ ap (λ (n : ℕ). slice_get (order limits) n) same ∙ at in
          let one : r ≡ ratio = cc in
          let p : Precedes ratio ratio = subst (λ (x : Ratio). Precedes x ratio) one precedes in
          absurd (once ratio ratio p p)
          )
    ]
  ]

module _ (task : Task) (N : Network) (permit : PermitTest) (bytes : Text) where
  -- a layout of a ratio before the one that a certificate ends with isn't legal
  pub least-before : (last : CertLast) (ratio : Ratio) → IsEvidenceBefore task N permit bytes last ratio
      → (L : Layout) → IsWithin task.limits L.ratio → Precedes L.ratio ratio → IsLegal N permit L → ⊥
  least-before last ratio is L within precedes legal =
      let (i, here) = at-some task.limits L.ratio within in
      is.evidence.lacking i L.ratio (before task.limits (length is.evidence.cert.sections) i ratio L.ratio is.next here precedes) here L refl legal

-- where there is none within the limits, none is legal
pub least-none : (task : Task) (m : ModuleTree) (lib : Tiles) (cert said : Text) → IsNoneWithin task m lib cert said
    → (L : Layout) → IsWithin task.limits L.ratio → IsLegal (network_of m) (permit_of lib) L → ⊥
least-none task m lib cert said is L within legal =
    let (i, here) = at-some task.limits L.ratio within in
    let low = slice_get_within (order task.limits) i L.ratio here in
    let all = is.all in
    is.evidence.lacking i L.ratio (omega arith) here L refl legal
