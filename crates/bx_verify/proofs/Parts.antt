-- One part at most is the first that fails, and there is one verdict.
use Rattle.std.proofs.Common.{◌≡◌, ℕ, zero, suc, ◌<◌, List, Some, inl, inr, refl, sym, ap, ap₂, ◌∙◌, subst, arith}
use Rattle.std.proofs.lemmas.Bool.{cases_lt}
use Rattle.bx_bounds.specs.Numbers.{IsLeast}
use Rattle.bx_cert.specs.Certs.{Certificate}
use Rattle.bx_cert.specs.declared.parts.CertLast.{CertLast}
use Rattle.bx_cert.specs.declared.parts.CertLast.TheVariants.{Found, Undecided, NoneWithin}
use Rattle.bx_cert.specs.declared.parts.Spot.{Spot}
use Rattle.bx_grid.specs.declared.ratio.Ratio.{Ratio}
use Rattle.bx_library.specs.Tiles.{Tiles}
use Rattle.bx_network.specs.Networks.{Network}
use Rattle.bx_siqad.specs.Designs.{Drawing}
use Rattle.bx_verify.specs.Answers.{IsVerdict}
use Rattle.bx_verify.specs.Failing.{OfFound, rank, Fails, NoneBefore, NoneFails, IsFirstToFail}
use Rattle.bx_verify.specs.declared.verdict.Part.{Part}
use Rattle.bx_verify.specs.declared.verdict.Part.TheVariants as part
use Rattle.bx_verify.specs.declared.verdict.Verdict.{Verdict}
use Rattle.bx_verify.specs.declared.verdict.Verdict.TheVariants.{Minimal, Wrong}

-- ---- parts and their places

part_at : ℕ → Part
part_at zero = part.Last
part_at (suc zero) = part.Missing
part_at (suc (suc zero)) = part.Proof
part_at (suc (suc (suc zero))) = part.Size
part_at (suc (suc (suc (suc zero)))) = part.Dots
part_at (suc (suc (suc (suc (suc n))))) = part.Network

part-at-rank : (p : Part) → part_at (rank p) ≡ p
unfolding part_at
part-at-rank part.Last = refl
part-at-rank part.Missing = refl
part-at-rank part.Proof = refl
part-at-rank part.Size = refl
part-at-rank part.Dots = refl
part-at-rank part.Network = refl

pub same-part : (p q : Part) → rank p ≡ rank q → p ≡ q
same-part p q same = sym (part-at-rank p) ∙ ap part_at same ∙ part-at-rank q

pub rank-low : (p : Part) → rank p < 6
rank-low part.Last = omega arith
rank-low part.Missing = omega arith
rank-low part.Proof = omega arith
rank-low part.Size = omega arith
rank-low part.Dots = omega arith
rank-low part.Network = omega arith

-- ---- one number

least-once : (IsOne : ℕ → Type 0) (j k : ℕ) → IsLeast IsOne (Some j) → IsLeast IsOne (Some k) → j ≡ k
least-once IsOne j k one other = elim (cases_lt j k) [
  | inl low ↦ absurd (other.1 j low one.0)
  | inr high ↦ elim (cases_lt k j) [
    | inl low ↦ absurd (one.1 k low other.0)
    | inr low ↦ omega (arith, high, low)
  ]
]

-- what follows from the found ratio and places of a certificate
pub of-found : (last : CertLast) (P Q : Ratio → List Spot → Type 0) (R : Type 0) → ((r : Ratio) (spots : List Spot) → P r spots → Q r spots → R) → OfFound last P → OfFound last Q → R
of-found (Found r spots) P Q R both p q = both r spots p q
of-found (Undecided r spent) P Q R both p q = absurd p
of-found NoneWithin P Q R both p q = absurd p

module _ (N : Network) (lib : Tiles) (design : Drawing) (cert : Certificate) where
  pub one-number : (p : Part) (j k : ℕ) → Fails N lib design cert p j → Fails N lib design cert p k → j ≡ k
  one-number part.Last j k one other = one.1 ∙ sym other.1
  one-number part.Missing j k one other = of-found cert.last _ _ (j ≡ k) (λ r spots a b. least-once _ j k a b) one other
  one-number part.Proof j k one other = least-once _ j k one other
  one-number part.Size j k one other = one.1 ∙ sym other.1
  one-number part.Dots j k one other = one.1 ∙ sym other.1
  one-number part.Network j k one other = one.1 ∙ sym other.1

  pub first-once : (p q : Part) (j k : ℕ) → IsFirstToFail N lib design cert p j → IsFirstToFail N lib design cert q k → (p ≡ q) × (j ≡ k)
  first-once p q j k one other = elim (cases_lt (rank p) (rank q)) [
    | inl low ↦ absurd (other.before p j low one.fails)
    | inr high ↦ elim (cases_lt (rank q) (rank p)) [
      | inl low ↦ absurd (one.before q k low other.fails)
      | inr low ↦
          let same : rank p ≡ rank q = omega (arith, high, low) in
          let is = same-part p q same in
          (is, one-number q j k (subst (λ (x : Part). Fails N lib design cert x j) is one.fails) other.fails)
    ]
  ]

  -- ---- one verdict

  pub verdict-once : (one other : Verdict) → IsVerdict N lib design cert one → IsVerdict N lib design cert other → one ≡ other
  verdict-once (Minimal r) (Minimal q) a b = ap Minimal (of-found cert.last _ _ (r ≡ q) (λ found spots x y. sym x ∙ y) a.0 b.0)
  verdict-once (Minimal r) (Wrong q k) a b = absurd (a.1 q k b.fails)
  verdict-once (Wrong p j) (Minimal r) a b = absurd (b.1 p j a.fails)
  verdict-once (Wrong p j) (Wrong q k) a b = let (parts, numbers) = first-once p q j k a b in ap₂ Wrong parts numbers

  -- ---- the parts one by one

  pub none-at-first : NoneBefore N lib design cert 0
  none-at-first p k low fails = absurd (omega (arith, low))

  -- none fails before the next part where this one doesn't fail either
  pub none-more : (q : Part) → NoneBefore N lib design cert (rank q) → ((k : ℕ) → ¬ Fails N lib design cert q k) → NoneBefore N lib design cert (suc (rank q))
  none-more q before fine p k low fails = elim (cases_lt (rank p) (rank q)) [
    | inl less ↦ before p k less fails
    | inr high ↦
        let same : rank p ≡ rank q = omega (arith, low, high) in
        fine k (subst (λ (x : Part). Fails N lib design cert x k) (same-part p q same) fails)
  ]

  pub none-at-all : NoneBefore N lib design cert 6 → NoneFails N lib design cert
  none-at-all before p k = before p k (rank-low p)
