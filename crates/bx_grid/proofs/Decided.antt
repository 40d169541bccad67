-- What is decided: it holds, or it doesn't. So of numbers of a sort that is decided there is a least one below
-- any bound, or none.
use Rattle.std.proofs.Common.{◌≡◌, ◌⊎◌, ◌↔◌, ℕ, zero, suc, ◌<◌, ◌≤◌, inl, inr, subst, arith}
use Rattle.std.proofs.lemmas.Bool.{cases_lt}
use Rattle.bx_grid.specs.declared.ratio.Ratio.{Ratio}
use Rattle.bx_grid.specs.Orders.{IsRatio}

abbrev pub Decided : Type 0 → Type 0
Decided P = P ⊎ (P → ⊥)

pub both : (P Q : Type 0) → Decided P → Decided Q → Decided (P × Q)
both P Q (inl p) (inl q) = inl (p, q)
both P Q (inl p) (inr never) = inr (λ h. never h.1)
both P Q (inr never) q = inr (λ h. never h.0)

pub either : (P Q : Type 0) → Decided P → Decided Q → Decided (P ⊎ Q)
either P Q (inl p) q = inl (inl p)
either P Q (inr never) (inl q) = inl (inr q)
either P Q (inr never) (inr none) = inr (λ h. elim h [ inl p ↦ never p | inr q ↦ none q ])

pub same : (P Q : Type 0) → P ↔ Q → Decided P → Decided Q
same P Q says (inl p) = inl (says.0 p)
same P Q says (inr never) = inr (λ q. never (says.1 q))

pub less : (m n : ℕ) → Decided (m < n)
less m n = elim (cases_lt m n) [ inl low ↦ inl low | inr high ↦ inr (λ low. omega arith) ]

pub at-most : (m n : ℕ) → Decided (m ≤ n)
at-most m n = elim (cases_lt n m) [ inl more ↦ inr (λ few. omega arith) | inr few ↦ inl few ]

-- ---- numbers of a sort that is decided

pub find : (P : ℕ → Type 0) → ((m : ℕ) → Decided (P m)) → (n : ℕ) → ((k : ℕ) × P k × ((m : ℕ) → m < k → P m → ⊥)) ⊎ ((m : ℕ) → m < n → P m → ⊥)
find P dec zero = inr (λ m low p. omega arith)
find P dec (suc n) = elim (find P dec n) [
  | inl found ↦ inl found
  | inr none ↦ elim (dec n) [
    | inl p ↦ inl (n, p, none)
    | inr never ↦ inr (λ m low p. elim (cases_lt m n) [
      | inl lower ↦ none m lower p
      | inr last ↦ (let here : m ≡ n = omega arith in never (subst P here p))
    ])
  ]
]

-- of a sort in which all are below a bound there is one, or none
pub some-number : (bound : ℕ) (P : ℕ → Type 0) → ((n : ℕ) → Decided (P n)) → ((n : ℕ) → P n → n < bound) → Decided ((n : ℕ) × P n)
some-number bound P dec low = elim (find P dec bound) [
  | inl (n, p, before) ↦ inl (n, p)
  | inr none ↦ inr (λ (n, p). none n (low n p) p)
]

-- ---- ratios

pub is-ratio : (r : Ratio) → Decided (IsRatio r)
is-ratio r =
    same ((1 ≤ r.w) × ((1 ≤ r.h) × ((r.w ≤ 144) × (r.h ≤ 144)))) (IsRatio r) (
      (λ h. record { some_width = h.0; some_height = h.1.0; width = h.1.1.0; height = h.1.1.1 }),
      (λ is. (is.some_width, (is.some_height, (is.width, is.height)))),
    )
    (both _ _ (at-most 1 r.w) (both _ _ (at-most 1 r.h) (both _ _ (at-most r.w 144) (at-most r.h 144))))

abbrev sides : ℕ → ℕ → Ratio
sides w h = record { w = w; h = h }

pub some-ratio : (P : Ratio → Type 0) → ((r : Ratio) → Decided (P r)) → ((r : Ratio) → P r → IsRatio r) → Decided ((r : Ratio) × P r)
some-ratio P dec are =
    same ((w : ℕ) × ((h : ℕ) × P (sides w h))) ((r : Ratio) × P r)
    ((λ (w, (h, p)). (sides w h, p)), (λ (r, p). (r.w, (r.h, p))))
    (some-number 145 (λ w. (h : ℕ) × P (sides w h))
    (λ w. some-number 145 (λ h. P (sides w h)) (λ h. dec (sides w h)) (λ h p. let most : h ≤ 144 = (are (sides w h) p).height in omega arith))
    (λ w (h, p). let most : w ≤ 144 = (are (sides w h) p).width in omega arith))
