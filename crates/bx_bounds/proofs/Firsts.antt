-- The first count proof, kind by kind.
use Rattle.std.proofs.Common.{◌≡◌, ◌⊎◌, ℕ, ◌+◌, ◌<◌, Option, Some, None, inl, inr, refl, sym, ap, ap₂, subst, arith}
use Rattle.std.proofs.lemmas.Bool.{cases_lt, cases_order}
use Rattle.bx_grid.specs.declared.ratio.Ratio.{Ratio}
use Rattle.bx_grid.specs.declared.count.CountProof.{CountProof}
use Rattle.bx_grid.specs.declared.count.CountProof.TheVariants.{Late, Crowd, Cut, Pair}
use Rattle.bx_network.specs.Networks.{Network}
use Rattle.bx_bounds.specs.Numbers.{IsLeast}
use Rattle.bx_bounds.specs.Precedes.{kind_place, HasLesserNumbers, Precedes, IsFirst}
use Rattle.bx_bounds.specs.Refutes.{IsLate, Refutes}

-- those of one kind
abbrev pub OfKind : ℕ → (CountProof → Type 0) → CountProof → Type 0
OfKind k Holds c = (kind_place c ≡ k) × Holds c

first-of-kind : (Holds : CountProof → Type 0) (k : ℕ) (c : CountProof) → kind_place c ≡ k → Holds c → ((d : CountProof) → kind_place d ≡ k → HasLesserNumbers d c → Holds d → ⊥) → IsFirst (OfKind k Holds) (Some c)
first-of-kind Holds k c is holds before = ((is, holds), others)
  where
    others : (d : CountProof) → Precedes d c → OfKind k Holds d → ⊥
    others d (inl less) (e, h) = omega arith
    others d (inr (same, lesser)) (e, h) = before d e lesser h

-- ---- each kind

pub late-first : (N : Network) (r : Ratio) (v : ℕ) → IsLate N r.h v → ((u : ℕ) → u < v → IsLate N r.h u → ⊥) → IsFirst (OfKind 0 (Refutes N r)) (Some (Late v))
late-first N r v late before = first-of-kind (Refutes N r) 0 (Late v) refl late others
  where
    others : (d : CountProof) → kind_place d ≡ 0 → HasLesserNumbers d (Late v) → Refutes N r d → ⊥
    others (Late u) e (inl less) h = before u less h
    others (Late u) e (inr (same, less)) h = omega arith
    others (Crowd a b) e lesser h = cc
    others (Cut a) e lesser h = cc
    others (Pair a b) e lesser h = cc

pub late-none : (N : Network) (r : Ratio) → ((v : ℕ) → IsLate N r.h v → ⊥) → IsFirst (OfKind 0 (Refutes N r)) None
late-none N r none (Late v) (e, h) = none v h
late-none N r none (Crowd a b) (e, h) = cc
late-none N r none (Cut a) (e, h) = cc
late-none N r none (Pair a b) (e, h) = cc

pub crowd-first : (N : Network) (r : Ratio) (first last : ℕ) → IsLeast (λ b. Refutes N r (Crowd first b)) (Some last) → ((a b : ℕ) → a < first → Refutes N r (Crowd a b) → ⊥) → IsFirst (OfKind 1 (Refutes N r)) (Some (Crowd first last))
crowd-first N r first last least before = first-of-kind (Refutes N r) 1 (Crowd first last) refl least.0 others
  where
    others : (d : CountProof) → kind_place d ≡ 1 → HasLesserNumbers d (Crowd first last) → Refutes N r d → ⊥
    others (Late v) e lesser h = cc
    others (Crowd a b) e (inl less) h = before a b less h
    others (Crowd a b) e (inr (same, less)) h = least.1 b less (subst (λ (x : ℕ). Refutes N r (Crowd x b)) same h)
    others (Cut a) e lesser h = cc
    others (Pair a b) e lesser h = cc

pub crowd-none : (N : Network) (r : Ratio) → ((a b : ℕ) → Refutes N r (Crowd a b) → ⊥) → IsFirst (OfKind 1 (Refutes N r)) None
crowd-none N r none (Late v) (e, h) = cc
crowd-none N r none (Crowd a b) (e, h) = none a b h
crowd-none N r none (Cut a) (e, h) = cc
crowd-none N r none (Pair a b) (e, h) = cc

pub cut-first : (N : Network) (r : Ratio) (row : ℕ) → Refutes N r (Cut row) → ((a : ℕ) → a < row → Refutes N r (Cut a) → ⊥) → IsFirst (OfKind 2 (Refutes N r)) (Some (Cut row))
cut-first N r row holds before = first-of-kind (Refutes N r) 2 (Cut row) refl holds others
  where
    others : (d : CountProof) → kind_place d ≡ 2 → HasLesserNumbers d (Cut row) → Refutes N r d → ⊥
    others (Late v) e lesser h = cc
    others (Crowd a b) e lesser h = cc
    others (Cut a) e (inl less) h = before a less h
    others (Cut a) e (inr (same, less)) h = omega arith
    others (Pair a b) e lesser h = cc

pub cut-none : (N : Network) (r : Ratio) → ((a : ℕ) → Refutes N r (Cut a) → ⊥) → IsFirst (OfKind 2 (Refutes N r)) None
cut-none N r none (Late v) (e, h) = cc
cut-none N r none (Crowd a b) (e, h) = cc
cut-none N r none (Cut a) (e, h) = none a h
cut-none N r none (Pair a b) (e, h) = cc

pub pair-first : (N : Network) (r : Ratio) (one two : ℕ) → IsLeast (λ v. Refutes N r (Pair one v)) (Some two) → ((u v : ℕ) → u < one → Refutes N r (Pair u v) → ⊥) → IsFirst (OfKind 3 (Refutes N r)) (Some (Pair one two))
pair-first N r one two least before = first-of-kind (Refutes N r) 3 (Pair one two) refl least.0 others
  where
    others : (d : CountProof) → kind_place d ≡ 3 → HasLesserNumbers d (Pair one two) → Refutes N r d → ⊥
    others (Late v) e lesser h = cc
    others (Crowd a b) e lesser h = cc
    others (Cut a) e lesser h = cc
    others (Pair u v) e (inl less) h = before u v less h
    others (Pair u v) e (inr (same, less)) h = least.1 v less (subst (λ (x : ℕ). Refutes N r (Pair x v)) same h)

pub pair-none : (N : Network) (r : Ratio) → ((u v : ℕ) → Refutes N r (Pair u v) → ⊥) → IsFirst (OfKind 3 (Refutes N r)) None
pair-none N r none (Late v) (e, h) = cc
pair-none N r none (Crowd a b) (e, h) = cc
pair-none N r none (Cut a) (e, h) = cc
pair-none N r none (Pair u v) (e, h) = none u v h

-- ---- all kinds

-- no proof of an earlier kind holds
abbrev pub NoneBelow : ℕ → (CountProof → Type 0) → Type 0
NoneBelow k Holds = (c : CountProof) → kind_place c < k → Holds c → ⊥

pub none-below : (Holds : CountProof → Type 0) → NoneBelow 0 Holds
none-below Holds c low h = omega arith

pub none-more : (Holds : CountProof → Type 0) (k : ℕ) → NoneBelow k Holds → IsFirst (OfKind k Holds) None → NoneBelow (k + 1) Holds
none-more Holds k below none c low h = elim (cases_lt (kind_place c) k) [
  | inl less ↦ below c less h
  | inr last ↦ none c (omega arith, h)
]

pub first-then : (Holds : CountProof → Type 0) (k : ℕ) (c : CountProof) → NoneBelow k Holds → IsFirst (OfKind k Holds) (Some c) → IsFirst Holds (Some c)
first-then Holds k c below ((is, holds), before) = (holds, others)
  where
    others : (d : CountProof) → Precedes d c → Holds d → ⊥
    others d (inl less) h = below d (omega arith) h
    others d (inr (same, lesser)) h = before d (inr (same, lesser)) (omega arith, h)

few-kinds : (c : CountProof) → kind_place c < 4
few-kinds (Late v) = omega arith
few-kinds (Crowd a b) = omega arith
few-kinds (Cut a) = omega arith
few-kinds (Pair u v) = omega arith

pub first-last : (Holds : CountProof → Type 0) (found : Option CountProof) → NoneBelow 3 Holds → IsFirst (OfKind 3 Holds) found → IsFirst Holds found
first-last Holds None below none = λ c h. none-more Holds 3 below none c (few-kinds c) h
first-last Holds (Some c) below first = first-then Holds 3 c below first

-- ---- one order

-- of two pairs of numbers, which are the same or the one lesser
two-numbers : (a b x y : ℕ) → ((a ≡ x) × (b ≡ y)) ⊎ (((a < x) ⊎ ((a ≡ x) × (b < y))) ⊎ ((x < a) ⊎ ((x ≡ a) × (y < b))))
two-numbers a b x y = elim (cases_order a x) [
  | inr (inl less) ↦ inr (inl (inl less))
  | inr (inr less) ↦ inr (inr (inl less))
  | inl first ↦ elim (cases_order b y) [
    | inl second ↦ inl (first, second)
    | inr (inl less) ↦ inr (inl (inr (first, less)))
    | inr (inr less) ↦ inr (inr (inr (sym first, less)))
  ]
]

same-kind : (c d : CountProof) → kind_place c ≡ kind_place d → (c ≡ d) ⊎ (HasLesserNumbers c d ⊎ HasLesserNumbers d c)
same-kind (Late u) (Late v) e = elim (two-numbers u 0 v 0) [ inl same ↦ inl (ap Late same.0) | inr other ↦ inr other ]
same-kind (Late u) (Crowd a b) e = cc
same-kind (Late u) (Cut a) e = cc
same-kind (Late u) (Pair a b) e = cc
same-kind (Crowd a b) (Late v) e = cc
same-kind (Crowd a b) (Crowd x y) e = elim (two-numbers a b x y) [ inl same ↦ inl (ap₂ Crowd same.0 same.1) | inr other ↦ inr other ]
same-kind (Crowd a b) (Cut x) e = cc
same-kind (Crowd a b) (Pair x y) e = cc
same-kind (Cut a) (Late v) e = cc
same-kind (Cut a) (Crowd x y) e = cc
same-kind (Cut a) (Cut x) e = elim (two-numbers a 0 x 0) [ inl same ↦ inl (ap Cut same.0) | inr other ↦ inr other ]
same-kind (Cut a) (Pair x y) e = cc
same-kind (Pair u v) (Late x) e = cc
same-kind (Pair u v) (Crowd x y) e = cc
same-kind (Pair u v) (Cut x) e = cc
same-kind (Pair u v) (Pair x y) e = elim (two-numbers u v x y) [ inl same ↦ inl (ap₂ Pair same.0 same.1) | inr other ↦ inr other ]

pub one-precedes : (c d : CountProof) → (c ≡ d) ⊎ (Precedes c d ⊎ Precedes d c)
one-precedes c d = elim (cases_order (kind_place c) (kind_place d)) [
  | inr (inl less) ↦ inr (inl (inl less))
  | inr (inr less) ↦ inr (inr (inl less))
  | inl kinds ↦ elim (same-kind c d kinds) [
    | inl same ↦ inl same
    | inr (inl lesser) ↦ inr (inl (inr (kinds, lesser)))
    | inr (inr lesser) ↦ inr (inr (inr (sym kinds, lesser)))
  ]
]

pub precedes-once : (c d : CountProof) → Precedes c d → Precedes d c → ⊥
precedes-once c d (inl less) (inl more) = omega arith
precedes-once c d (inl less) (inr (same, lesser)) = omega arith
precedes-once c d (inr (same, lesser)) (inl more) = omega arith
precedes-once c d (inr (same, inl less)) (inr (also, inl more)) = omega arith
precedes-once c d (inr (same, inl less)) (inr (also, inr (first, more))) = omega arith
precedes-once c d (inr (same, inr (first, less))) (inr (also, inl more)) = omega arith
precedes-once c d (inr (same, inr (first, less))) (inr (also, inr (one, more))) = omega arith
