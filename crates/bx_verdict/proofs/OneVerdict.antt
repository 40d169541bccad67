-- A ratio has one verdict, since it has one first count proof at most, and its formula one search.
use Rattle.std.proofs.Common.{◌≡◌, ◌⊎◌, ℕ, Some, None, inl, inr, refl, sym, ap, ◌∙◌}
use Rattle.bx_bounds.specs.Precedes.{IsFirst}
use Rattle.bx_bounds.specs.Refutes.{Refutes}
use Rattle.bx_bounds.proofs.Firsts.{one-precedes}
use Rattle.bx_encode.specs.Formula.{formula}
use Rattle.bx_grid.specs.declared.count.CountProof.{CountProof}
use Rattle.bx_grid.specs.declared.ratio.Ratio.{Ratio}
use Rattle.bx_layout.specs.Permits.{PermitTest}
use Rattle.bx_network.specs.Networks.{Network}
use Rattle.bx_proof.specs.declared.refutation.Refutation.TheVariants.{Count, Clauses}
use Rattle.bx_search.specs.declared.outcome.Outcome.{Outcome}
use Rattle.bx_search.specs.declared.outcome.Outcome.TheVariants as outcome
use Rattle.bx_search.proofs.OneEnd.{one-end}
use Rattle.bx_verdict.specs.Verdicts.{Asks, EndsWith, IsVerdict}
use Rattle.bx_verdict.specs.declared.verdict.Ended.{Ended}
use Rattle.bx_verdict.specs.declared.verdict.Ended.TheVariants.{Refuted, Found, Undecided}

-- of two first count proofs none comes before the other
one-first : (Holds : CountProof → Type 0) (c d : CountProof) → IsFirst Holds (Some c) → IsFirst Holds (Some d) → c ≡ d
one-first Holds c d one two = elim (one-precedes c d) [
  | inl same ↦ same
  | inr (inl before) ↦ absurd (two.1 c before one.0)
  | inr (inr behind) ↦ absurd (one.1 d behind two.0)
]

-- the end of a search, as a verdict; one that is stopped has none
abbrev pub verdict_of : Outcome → Ended
verdict_of (outcome.Sat bits) = Found bits
verdict_of (outcome.Unsat steps) = Refuted (Clauses steps)
verdict_of (outcome.Undecided spent) = Undecided spent
verdict_of outcome.Stopped = Undecided 0

module _ (N : Network) (permit : PermitTest) (r : Ratio) (budget : ℕ) where
  abbrev pub IsCounted : Ended → Type 0
  IsCounted verdict = (c : CountProof) × IsFirst (Refutes N r) (Some c) × (Refuted (Count c) ≡ verdict)

  abbrev pub IsEnded : Ended → Type 0
  IsEnded verdict = (end : Outcome) × IsFirst (Refutes N r) None × EndsWith (formula N permit r) budget end × (verdict_of end ≡ verdict)

  parted : (verdict : Ended) → IsVerdict N permit r budget verdict → IsCounted verdict ⊎ IsEnded verdict
  parted (Refuted (Count c)) first = inl (c, first, refl)
  parted (Refuted (Clauses steps)) (none, ends) = inr (outcome.Unsat steps, none, ends, refl)
  parted (Found bits) (none, ends) = inr (outcome.Sat bits, none, ends, refl)
  parted (Undecided spent) (none, ends) = inr (outcome.Undecided spent, none, ends, refl)

  one-ended : (one other : Ended) → IsEnded one → IsEnded other → one ≡ other
  one-ended one other (end, none, (m, finds), is) (final, free, (n, found), are) =
      sym is ∙ ap verdict_of (one-end (formula N permit r) budget m n end final finds found).0 ∙ are

  one-counted : (one other : Ended) → IsCounted one → IsCounted other → one ≡ other
  one-counted one other (c, first, is) (d, least, are) =
      sym is ∙ ap (λ (x : CountProof). Refuted (Count x)) (one-first (Refutes N r) c d first least) ∙ are

  not-both : (one other : Ended) → IsCounted one → IsEnded other → ⊥
  not-both one other (c, first, is) (end, none, ends, are) = none c first.0

  pub one-verdict : (one other : Ended) → IsVerdict N permit r budget one → IsVerdict N permit r budget other → one ≡ other
  one-verdict one other a b = elim (parted one a) [
    | inl counted ↦ elim (parted other b) [ inl more ↦ one-counted one other counted more | inr ended ↦ absurd (not-both one other counted ended) ]
    | inr ended ↦ elim (parted other b) [ inl counted ↦ absurd (not-both other one counted ended) | inr more ↦ one-ended one other ended more ]
  ]

  pub one-count : (end : Ended) (one other : ℕ) → Asks N permit r budget end one → Asks N permit r budget end other → one ≡ other
  one-count (Refuted (Count c)) one other a b = a ∙ sym b
  one-count (Refuted (Clauses steps)) one other a b = (one-end (formula N permit r) budget one other (outcome.Unsat steps) (outcome.Unsat steps) a b).1
  one-count (Found bits) one other a b = (one-end (formula N permit r) budget one other (outcome.Sat bits) (outcome.Sat bits) a b).1
  one-count (Undecided spent) one other a b = (one-end (formula N permit r) budget one other (outcome.Undecided spent) (outcome.Undecided spent) a b).1
