-- Sums over lists in which one item changes, what holds of each item, and how often a number stands in a list.
use Rattle.std.proofs.Common.{◌≡◌, ℕ, zero, suc, ◌+◌, ◌<◌, ◌≤◌, cond, eqb, List, [], ◌∷◌, ◌++◌, set, get_or, length, inl, inr, refl, sym, ap, subst, arith}
use Rattle.std.specs.Prelude.{sum_by, replicate}
use Rattle.std.specs.List.{AllByRecursion}
use Rattle.std.proofs.lemmas.List.Sums.{sum_by-cons, sum_by-append}
use Rattle.std.proofs.lemmas.Bool.{eq-eqb, cases_lt}
use Rattle.std.proofs.lemmas.Bool.Decides.{eqb_tells}
use mathlib.Core.Option.{some, some-injective, some-ne-none}
use lib.ListN.{get_elem?}
use Rattle.bx_race.specs.Draws.{times}

module _ {X : Type 0} where
  pub sum_by-set : (f : X → ℕ) (xs : List X) (i : ℕ) (x y : X) → get_elem? xs i ≡ some x → sum_by f (set xs i y) + f x ≡ sum_by f xs + f y
  sum_by-set f [] i x y e = absurd (some-ne-none x (sym e))
  sum_by-set f (z ∷ zs) zero x y e = omega (arith, sum_by-cons f y zs, sum_by-cons f z zs, ap f (some-injective z x e))
  sum_by-set f (z ∷ zs) (suc i) x y e = omega (arith, sum_by-cons f z (set zs i y), sum_by-cons f z zs, sum_by-set f zs i x y e)

  pub at-le-sum_by : (f : X → ℕ) (xs : List X) (i : ℕ) (x : X) → get_elem? xs i ≡ some x → f x ≤ sum_by f xs
  at-le-sum_by f [] i x e = absurd (some-ne-none x (sym e))
  at-le-sum_by f (z ∷ zs) zero x e = omega (arith, sum_by-cons f z zs, ap f (some-injective z x e))
  at-le-sum_by f (z ∷ zs) (suc i) x e = omega (arith, sum_by-cons f z zs, at-le-sum_by f zs i x e)

  pub All-set : (P : X → Type 0) (xs : List X) (i : ℕ) (x : X) → AllByRecursion P xs → P x → AllByRecursion P (set xs i x)
  All-set P [] i x all p = tt
  All-set P (z ∷ zs) zero x all p = (p, all.1)
  All-set P (z ∷ zs) (suc i) x all p = (all.0, All-set P zs i x all.1 p)

  pub All-at : (P : X → Type 0) (xs : List X) (i : ℕ) (x : X) → AllByRecursion P xs → get_elem? xs i ≡ some x → P x
  All-at P [] i x all e = absurd (some-ne-none x (sym e))
  All-at P (z ∷ zs) zero x all e = subst P (some-injective z x e) all.0
  All-at P (z ∷ zs) (suc i) x all e = All-at P zs i x all.1 e

  pub All-append : (P : X → Type 0) (xs ys : List X) → AllByRecursion P xs → AllByRecursion P ys → AllByRecursion P (xs ++ ys)
  All-append P [] ys all more = more
  All-append P (x ∷ xs) ys all more = (all.0, All-append P xs ys all.1 more)

  pub All-from : (P Q : X → Type 0) (xs : List X) → ((x : X) → P x → Q x) → AllByRecursion P xs → AllByRecursion Q xs
  All-from P Q [] give all = tt
  All-from P Q (x ∷ xs) give all = (give x all.0, All-from P Q xs give all.1)

  -- a sum of zeros
  pub sum_by-zeros : (f : X → ℕ) (xs : List X) → AllByRecursion (λ x. f x ≡ 0) xs → sum_by f xs ≡ 0
  sum_by-zeros f [] all = refl
  sum_by-zeros f (x ∷ xs) all = omega (arith, sum_by-cons f x xs, all.0, sum_by-zeros f xs all.1)

pub times-append : (i : ℕ) (xs ys : List ℕ) → times i (xs ++ ys) ≡ times i xs + times i ys
times-append i xs ys = sum_by-append (λ j. cond (eqb j i) 1 0) xs ys

pub times-cons : (i j : ℕ) (xs : List ℕ) → times i (j ∷ xs) ≡ cond (eqb j i) 1 0 + times i xs
times-cons i j xs = sum_by-cons (λ j. cond (eqb j i) 1 0) j xs

pub times-same : (i : ℕ) → times i (i ∷ []) ≡ 1
times-same i = ap {B = ℕ} (λ b. 0 + cond b 1 0) (eq-eqb i i refl)

-- what holds of each item holds of one that stands there
pub All-times : (P : ℕ → Type 0) (i : ℕ) (xs : List ℕ) → AllByRecursion P xs → 0 < times i xs → P i
All-times P i [] all there = absurd (omega arith)
All-times P i (x ∷ xs) all there =
    elim (eqb_tells x i) [
      | inl (_, e) ↦ subst P e all.0
      | inr (off, _) ↦ All-times P i xs all.1 (omega (arith, times-cons i x xs, ap {B = ℕ} (λ b. cond b 1 0) off))
    ]

-- a list that isn't empty has an item
pub some_item : (xs : List ℕ) → 0 < length xs → (i : ℕ) × (0 < times i xs)
some_item [] there = absurd (omega arith)
some_item (x ∷ xs) there = (x, omega (arith, times-cons x x xs, ap {B = ℕ} (λ b. cond b 1 0) (eq-eqb x x refl)))

-- what doesn't hold of a number that isn't there
pub times-none : (P : ℕ → Type 0) (i : ℕ) (xs : List ℕ) → AllByRecursion P xs → (P i → ⊥) → times i xs ≡ 0
times-none P i xs all not =
    elim (cases_lt 0 (times i xs)) [
      | inl there ↦ absurd (not (All-times P i xs all there))
      | inr none ↦ omega arith
    ]

-- a property of each item of each list holds of what stands in one of them
pub All-lists : {X : Type 0} (P : ℕ → Type 0) (g : X → List ℕ) (i : ℕ) (xs : List X) → AllByRecursion (λ x. AllByRecursion P (g x)) xs → 0 < sum_by (λ x. times i (g x)) xs → P i
All-lists P g i [] all there = absurd (omega arith)
All-lists P g i (x ∷ xs) all there =
    elim (cases_lt 0 (times i (g x))) [
      | inl here ↦ All-times P i (g x) all.0 here
      | inr none ↦ All-lists P g i xs all.1 (omega (arith, sum_by-cons (λ y. times i (g y)) x xs))
    ]

pub All-replicate : {X : Type 0} (P : X → Type 0) (n : ℕ) (x : X) → P x → AllByRecursion P (replicate n x)
All-replicate P zero x p = tt
All-replicate P (suc n) x p = (p, All-replicate P n x p)

pub at_place : {X : Type 0} (xs : List X) (i : ℕ) (x : X) → i < length xs → get_elem? xs i ≡ some (get_or xs i x)
at_place [] i x l = absurd (omega arith)
at_place (y ∷ ys) zero x l = refl
at_place (y ∷ ys) (suc i) x l = at_place ys i x (omega arith)
