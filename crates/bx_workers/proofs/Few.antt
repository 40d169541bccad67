-- Numbers below n that are all different are at most n.
use Rattle.std.proofs.Common.{◌≡◌, ℕ, zero, suc, ◌+◌, ◌<◌, ◌≤◌, List, [], ◌∷◌, length, inl, inr, refl, subst, arith}
use Rattle.std.proofs.lemmas.Bool.{cases_lt}
use Rattle.bx_race.specs.Draws.{times}
use Rattle.bx_race.specs.Fair.{once_below}
use Rattle.bx_race.specs.Rule.{AreDifferentBelow}
use Rattle.bx_race.proofs.Counts.{times-append, times-same}
use Rattle.bx_race.proofs.FairSteps.{once_below-in, once_below-out}

-- the numbers below n, each as often as f says
abbrev sum_to : ℕ → (ℕ → ℕ) → ℕ
sum_to zero f = 0
sum_to (suc n) f = sum_to n f + f n

one : (n x : ℕ) → x < n → 1 ≤ sum_to n (λ i. times i (x ∷ []))
one zero x low = absurd (omega (arith, low))
one (suc n) x low = elim (cases_lt x n) [
  | inl less ↦ omega (arith, one n x less)
  | inr behind ↦ (let same : x ≡ n = omega (arith, low, behind) in omega (arith, subst (λ (i : ℕ). times i (x ∷ []) ≡ 1) same (times-same x)))
]

cons : (n x : ℕ) (xs : List ℕ) → sum_to n (λ i. times i (x ∷ xs)) ≡ sum_to n (λ i. times i (x ∷ [])) + sum_to n (λ i. times i xs)
cons zero x xs = refl
cons (suc n) x xs = omega (arith, cons n x xs, times-append n (x ∷ []) xs)

long : (n : ℕ) (xs : List ℕ) → ((i : ℕ) → 0 < times i xs → i < n) → length xs ≤ sum_to n (λ i. times i xs)
long n [] below = omega arith
long n (x ∷ xs) below =
    let here : x < n = below x (omega (arith, times-append x (x ∷ []) xs, times-same x)) in
    omega (arith, cons n x xs, one n x here, long n xs (λ i there. below i (omega (arith, there, times-append i (x ∷ []) xs))))

most : (n : ℕ) (f : ℕ → ℕ) → ((i : ℕ) → f i ≤ 1) → sum_to n f ≤ n
most zero f each = omega arith
most (suc n) f each = omega (arith, most n f each, each n)

once : (n i : ℕ) → once_below n i ≤ 1
once n i = elim (cases_lt i n) [ inl low ↦ omega (arith, once_below-in n i low) | inr past ↦ omega (arith, once_below-out n i past) ]

below : (n i : ℕ) → 0 < once_below n i → i < n
below n i there = elim (cases_lt i n) [ inl low ↦ low | inr past ↦ absurd (omega (arith, there, once_below-out n i past)) ]

pub few-different : (n : ℕ) (xs : List ℕ) → AreDifferentBelow n xs → length xs ≤ n
few-different n xs are = omega (
  arith,
  long n xs (λ i there. below n i (omega (arith, there, are i))),
  most n (λ i. times i xs) (λ i. omega (arith, are i, once n i)),
)
