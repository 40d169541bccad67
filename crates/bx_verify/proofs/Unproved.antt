-- The sections whose proofs don't refute their ratios, one by one.
use Rattle.std.proofs.Common.{◌≡◌, ℕ, ◌+◌, ◌<◌, ◌≤◌, List, length, Some, inl, inr, sym, ◌∙◌, subst, arith}
use Rattle.std.specs.Prelude.{slice_get}
use Rattle.std.proofs.lemmas.Bool.{cases_lt}
use Rattle.std.proofs.lemmas.Option.{slice_get_within, same_Some}
use Rattle.bx_cert.specs.declared.parts.Section.{Section}
use Rattle.bx_layout.specs.Permits.{PermitTest}
use Rattle.bx_network.specs.Networks.{Network}
use Rattle.bx_refutes.specs.Refutations.{IsRefutedBy}
use Rattle.bx_verify.specs.Failing.{IsUnproved}

module _ (N : Network) (permit : PermitTest) (sections : List Section) where
  -- the proofs of the first sections, so many, refute their ratios
  abbrev pub ProvedUpTo : ℕ → Type 0
  ProvedUpTo n = (k : ℕ) (s : Section) → k < n → slice_get sections k ≡ Some s → IsRefutedBy N permit s.ratio s.proof

  pub proved-fine : (n : ℕ) → ProvedUpTo n → (k : ℕ) → k < n → ¬ IsUnproved N permit sections k
  proved-fine n proved k low un = un.unproved (proved k un.section low un.at)

  pub proved-more : (n : ℕ) (s : Section) → slice_get sections n ≡ Some s → IsRefutedBy N permit s.ratio s.proof → ProvedUpTo n → ProvedUpTo (n + 1)
  proved-more n s at is proved k q low here = elim (cases_lt k n) [
    | inl less ↦ proved k q less here
    | inr high ↦
        let same : k ≡ n = omega (arith, low, high) in
        let both : slice_get sections n ≡ Some q = subst (λ (m : ℕ). slice_get sections m ≡ Some q) same here in
        subst (λ (x : Section). IsRefutedBy N permit x.ratio x.proof) (same_Some s q (sym at ∙ both)) is
  ]

  module _ (n : ℕ) (past : length sections ≤ n) (proved : ProvedUpTo n) where
    pub all-proved : (k : ℕ) (s : Section) → slice_get sections k ≡ Some s → IsRefutedBy N permit s.ratio s.proof
    all-proved k s at = let low = slice_get_within sections k s at in proved k s (omega (arith, low, past)) at

    pub all-fine : (k : ℕ) → ¬ IsUnproved N permit sections k
    all-fine k un = un.unproved (all-proved k un.section un.at)
