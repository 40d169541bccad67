-- The highest of levels, and the second-highest, level by level.
use Rattle.std.proofs.Common.{◌≡◌, ℕ, ◌+◌, ◌<◌, ◌≤◌, max, Bool, true, false, cond, List, [], ◌∷◌, ◌++◌, length, get_or, take, filter, refl, ◌∙◌, ap, arith}
use Rattle.std.specs.Prelude.{nat_lt}
use Rattle.std.proofs.lemmas.List.{take_more}
use Rattle.bx_search.specs.Learning.{highest}

highest-push : (xs : List ℕ) (x : ℕ) → highest (xs ++ x ∷ []) ≡ max (highest xs) x
highest-push [] x = omega arith
highest-push (y ∷ xs) x = omega (arith, highest-push xs x)

below-push : (top : ℕ) (xs : List ℕ) (x : ℕ) → highest (filter (λ y. nat_lt y top) (xs ++ x ∷ [])) ≡ cond (nat_lt x top) (max (highest (filter (λ y. nat_lt y top) xs)) x) (highest (filter (λ y. nat_lt y top) xs))
below-push top [] x = cases (nat_lt x top) where
  cases : (b : Bool) → highest (cond b (x ∷ []) []) ≡ cond b (max 0 x) 0
  cases true = omega arith
  cases false = refl
below-push top (y ∷ xs) x = cases (nat_lt y top) (nat_lt x top) (below-push top xs x) where
  cases : (a b : Bool) → highest (filter (λ z. nat_lt z top) (xs ++ x ∷ [])) ≡ cond b (max (highest (filter (λ z. nat_lt z top) xs)) x) (highest (filter (λ z. nat_lt z top) xs))
      → highest (cond a (y ∷ filter (λ z. nat_lt z top) (xs ++ x ∷ [])) (filter (λ z. nat_lt z top) (xs ++ x ∷ [])))
      ≡ cond b (max (highest (cond a (y ∷ filter (λ z. nat_lt z top) xs) (filter (λ z. nat_lt z top) xs))) x) (highest (cond a (y ∷ filter (λ z. nat_lt z top) xs) (filter (λ z. nat_lt z top) xs)))
  cases true true e = omega (arith, e)
  cases true false e = omega (arith, e)
  cases false b e = e

longer : (xs : List ℕ) (i : ℕ) → i < length xs → take (i + 1) xs ≡ take i xs ++ get_or xs i 0 ∷ []
longer xs i below = take_more xs i 0 below

lt-true : (m n : ℕ) → m < n → nat_lt m n ≡ true
lt-true m n h = grind (arith, h)

lt-false : (m n : ℕ) → n ≤ m → nat_lt m n ≡ false
lt-false m n h = grind (arith, h)

-- one level more
pub highest-more : (xs : List ℕ) (i : ℕ) → i < length xs → highest (take (i + 1) xs) ≡ max (highest (take i xs)) (get_or xs i 0)
highest-more xs i below = ap highest (longer xs i below) ∙ highest-push (take i xs) (get_or xs i 0)

-- those below the top of the first so many levels
abbrev pub below : ℕ → List ℕ → ℕ → List ℕ
below top xs i = filter (λ y. nat_lt y top) (take i xs)

below-more : (top : ℕ) (xs : List ℕ) (i : ℕ) → i < length xs
    → highest (below top xs (i + 1)) ≡ cond (nat_lt (get_or xs i 0) top) (max (highest (below top xs i)) (get_or xs i 0)) (highest (below top xs i))
below-more top xs i within = ap (λ ys. highest (filter (λ y. nat_lt y top) ys)) (longer xs i within) ∙ below-push top (take i xs) (get_or xs i 0)

pub below-yes : (top : ℕ) (xs : List ℕ) (i : ℕ) → i < length xs → get_or xs i 0 < top → highest (below top xs (i + 1)) ≡ max (highest (below top xs i)) (get_or xs i 0)
below-yes top xs i within low = below-more top xs i within ∙ rw (lt-true (get_or xs i 0) top low) refl

pub below-no : (top : ℕ) (xs : List ℕ) (i : ℕ) → i < length xs → top ≤ get_or xs i 0 → highest (below top xs (i + 1)) ≡ highest (below top xs i)
below-no top xs i within high = below-more top xs i within ∙ rw (lt-false (get_or xs i 0) top high) refl
