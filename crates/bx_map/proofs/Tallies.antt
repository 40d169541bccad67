-- How many items of a list pass a test.
use Rattle.std.proofs.Common.{◌≡◌, ℕ, zero, suc, ◌+◌, ◌<◌, ◌==◌, nat_lt, Bool, true, false, cond, ◌&&◌, if◌then◌else◌, List, [], ◌∷◌, ◌++◌, length, map, refl, sym, ◌∙◌, ap, ap₂, arith, inl, inr}
use Rattle.std.specs.List.{filter, AllByRecursion}
use Rattle.std.proofs.Math.Bool.{and-true}
use Rattle.std.proofs.lemmas.Bool.{cases_order, eq-eqb, ne_eqb, lt-ltb, le-ltb}
use Rattle.bx_network.specs.Networks.{one_if}

abbrev pub tally : {X : Type 0} → (X → Bool) → List X → ℕ
tally p [] = 0
tally p (x ∷ xs) = one_if (p x) + tally p xs

pub tally-append : {X : Type 0} (p : X → Bool) (xs ys : List X) → tally p (xs ++ ys) ≡ tally p xs + tally p ys
tally-append p [] ys = omega arith
tally-append p (x ∷ xs) ys = let rest = tally-append p xs ys in omega (arith, rest)

pub tally-map : {X Y : Type 0} (p : Y → Bool) (f : X → Y) (xs : List X) → tally p (map f xs) ≡ tally (λ x. p (f x)) xs
tally-map p f [] = refl
tally-map p f (x ∷ xs) = ap (λ n. one_if (p (f x)) + n) (tally-map p f xs)

tally-kept : {X : Type 0} (q : X → Bool) (x : X) (ys : List X) (b : Bool) → tally q (cond b (x ∷ ys) ys) ≡ one_if (b && q x) + tally q ys
tally-kept q x ys true = refl
tally-kept q x ys false = omega arith

pub tally-filter : {X : Type 0} (q p : X → Bool) (xs : List X) → tally q (filter p xs) ≡ tally (λ x. p x && q x) xs
tally-filter q p [] = refl
tally-filter q p (x ∷ xs) = tally-kept q x (filter p xs) (p x) ∙ ap (λ n. one_if (p x && q x) + n) (tally-filter q p xs)

length-kept : {X : Type 0} (x : X) (ys : List X) (b : Bool) → length (cond b (x ∷ ys) ys) ≡ one_if b + length ys
length-kept x ys true = omega arith
length-kept x ys false = omega arith

pub length-filter : {X : Type 0} (p : X → Bool) (xs : List X) → length (filter p xs) ≡ tally p xs
length-filter p [] = refl
length-filter p (x ∷ xs) = length-kept x (filter p xs) (p x) ∙ ap (λ n. one_if (p x) + n) (length-filter p xs)

-- where one test holds as often as two others together
pub tally-sum : {X : Type 0} (r s t : X → Bool) → ((x : X) → one_if (r x) ≡ one_if (s x) + one_if (t x)) → (xs : List X) → tally r xs ≡ tally s xs + tally t xs
tally-sum r s t h [] = refl
tally-sum r s t h (x ∷ xs) = let here = h x in let rest = tally-sum r s t h xs in omega (arith, here, rest)

-- where two tests agree on each item
pub tally-same : {X : Type 0} (r s : X → Bool) (xs : List X) → AllByRecursion (λ x. r x ≡ s x) xs → tally r xs ≡ tally s xs
tally-same r s [] a = refl
tally-same r s (x ∷ xs) a = ap₂ (λ (b : Bool) (n : ℕ). one_if b + n) a.0 (tally-same r s xs a.1)

pub tally-all : {X : Type 0} (xs : List X) → tally (λ x. true) xs ≡ length xs
tally-all [] = refl
tally-all (x ∷ xs) = let rest = tally-all xs in omega (arith, rest)

pub tally-none : {X : Type 0} (xs : List X) → tally (λ x. false) xs ≡ 0
tally-none [] = refl
tally-none (x ∷ xs) = let rest = tally-none xs in omega (arith, rest)

-- the sum of what a function gives for the numbers below one
abbrev pub sum_below : (ℕ → ℕ) → ℕ → ℕ
sum_below f zero = 0
sum_below f (suc i) = sum_below f i + f i

pub sum_below-same : (f g : ℕ → ℕ) (n : ℕ) → ((i : ℕ) → i < n → f i ≡ g i) → sum_below f n ≡ sum_below g n
sum_below-same f g zero h = refl
sum_below-same f g (suc i) h = ap₂ (λ (a b : ℕ). a + b) (sum_below-same f g i (λ j l. h j (omega arith))) (h i (omega arith))

pub one_below : (b : Bool) (u i : ℕ) → one_if (nat_lt u (suc i) && b) ≡ one_if (nat_lt u i && b) + one_if ((u == i) && b)
one_below b u i =
    elim (cases_order u i) [
      | inl e ↦ rw (lt-ltb u (suc i) (omega arith), le-ltb u i (omega arith), eq-eqb u i e) (omega arith)
      | inr other ↦ elim other [
        | inl l ↦ rw (lt-ltb u (suc i) (omega arith), lt-ltb u i l, ne_eqb u i (λ e. omega arith)) (omega arith)
        | inr g ↦ rw (le-ltb u (suc i) (omega arith), le-ltb u i (omega arith), ne_eqb u i (λ e. omega arith)) refl
      ]
    ]

pub one_next : (u i : ℕ) → one_if (nat_lt u (suc i)) ≡ one_if (nat_lt u i) + one_if (u == i)
one_next u i =
    let e = one_below true u i in
    let a = ap one_if (and-true (nat_lt u (suc i))) in
    let b = ap one_if (and-true (nat_lt u i)) in
    let c = ap one_if (and-true (u == i)) in
    omega (arith, e, a, b, c)

-- items sorted by a number: those of all numbers below one, together
pub tally-below : {X : Type 0} (key : X → ℕ) (q : X → Bool) (xs : List X) (n : ℕ) →
    sum_below (λ i. tally (λ x. (key x == i) && q x) xs) n ≡ tally (λ x. nat_lt (key x) n && q x) xs
tally-below key q xs zero = sym (tally-same (λ x. nat_lt (key x) 0 && q x) (λ x. false) xs (none xs) ∙ tally-none xs)
  where
    none : (ys : List _) → AllByRecursion (λ x. (nat_lt (key x) 0 && q x) ≡ false) ys
    none [] = tt
    none (y ∷ ys) = (ap (λ (b : Bool). b && q y) (le-ltb (key y) 0 (omega arith)), none ys)
tally-below key q xs (suc i) =
    let before = tally-below key q xs i in
    let here = tally-sum (λ x. nat_lt (key x) (suc i) && q x) (λ x. nat_lt (key x) i && q x) (λ x. (key x == i) && q x) (λ x. one_below (q x) (key x) i) xs in
    omega (arith, before, here)
