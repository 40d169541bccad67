-- Lists that ascend by a relation, through the functions that make a list of another.
use Rattle.std.proofs.Common.{◌≡◌, ℕ, zero, suc, ◌+◌, ◌<◌, ◌≤◌, ◌⊎◌, Bool, true, false, cond, List, [], ◌∷◌, ◌++◌, map, filter, flat_map, length, get_or, AllPairs, inl, inr, refl, subst, arith}
use Rattle.std.specs.Prelude.{⊤}
use Rattle.std.specs.List.{AllByRecursion, range_with_len}
use Rattle.bx_logic.proofs.Members.{Member, Member-append_cases, Member-filter_cases, Member-map_cases, Member-flat_map_cases, AllByRecursion-from_member, member_of_AllByRecursion}

pub at_or_above : (a x : ℕ) → a ≤ x → (a ≡ x) ⊎ (a + 1 ≤ x)
at_or_above a x low = grind arith

pub Member-range : (a n x : ℕ) → a ≤ x → x < a + n → Member x (range_with_len a n)
Member-range a zero x low high = absurd (omega arith)
Member-range a (suc n) x low high =
    elim (at_or_above a x low) [ inl e ↦ inl e | inr l ↦ inr (Member-range (a + 1) n x l (omega arith)) ]

pub Member-range_bounds : (a n x : ℕ) → Member x (range_with_len a n) → (a ≤ x) × (x < a + n)
Member-range_bounds a zero x h = absurd h
Member-range_bounds a (suc n) x (inl e) = omega arith
Member-range_bounds a (suc n) x (inr h) = let r = Member-range_bounds (a + 1) n x h in omega arith

-- each element is related to all that follow it
abbrev pub Ascends : {X : Type 0} → (X → X → Type 0) → List X → Type 0
Ascends R [] = ⊤
Ascends R (x ∷ xs) = AllByRecursion (R x) xs × Ascends R xs

pub Ascends-append : {X : Type 0} (R : X → X → Type 0) (xs ys : List X) → Ascends R xs → Ascends R ys → ((x y : X) → Member x xs → Member y ys → R x y) → Ascends R (xs ++ ys)
Ascends-append R [] ys a b f = b
Ascends-append R (x ∷ xs) ys a b f =
    (AllByRecursion-from_member (R x) (xs ++ ys) rest, Ascends-append R xs ys a.1 b (λ z y m n. f z y (inr m) n))
  where
    rest : (y : _) → Member y (xs ++ ys) → R x y
    rest y m = elim (Member-append_cases y xs ys m) [
      | inl l ↦ member_of_AllByRecursion (R x) y xs a.0 l
      | inr r ↦ f x y (inl refl) r
    ]

pub Ascends-filter : {X : Type 0} (R : X → X → Type 0) (p : X → Bool) (xs : List X) → Ascends R xs → Ascends R (filter p xs)
Ascends-filter R p [] a = tt
Ascends-filter R p (x ∷ xs) a = kept (p x) (Ascends-filter R p xs a.1)
  where
    later : AllByRecursion (R x) (filter p xs)
    later = AllByRecursion-from_member (R x) (filter p xs) (λ y m. member_of_AllByRecursion (R x) y xs a.0 (Member-filter_cases p y xs m).0)

    kept : (b : Bool) → Ascends R (filter p xs) → Ascends R (cond b (x ∷ filter p xs) (filter p xs))
    kept true r = (later, r)
    kept false r = r

pub Ascends-map : {X Y : Type 0} (R : X → X → Type 0) (S : Y → Y → Type 0) (f : X → Y) (xs : List X) → ((x y : X) → Member x xs → Member y xs → R x y → S (f x) (f y)) → Ascends R xs → Ascends S (map f xs)
Ascends-map R S f [] g a = tt
Ascends-map {X} {Y} R S f (x ∷ xs) g a =
    (AllByRecursion-from_member (S (f x)) (map f xs) later, Ascends-map R S f xs (λ y z m n. g y z (inr m) (inr n)) a.1)
  where
    later : (y : Y) → Member y (map f xs) → S (f x) y
    later y m =
        let (z, n, e) = Member-map_cases f y xs m in
        subst (S (f x)) e (g x z (inl refl) (inr n) (member_of_AllByRecursion (R x) z xs a.0 n))

pub Ascends-flat_map : {X Y : Type 0} (R : X → X → Type 0) (S : Y → Y → Type 0) (f : X → List Y) (xs : List X) → ((x : X) → Member x xs → Ascends S (f x)) → ((x y : X) → Member x xs → Member y xs → R x y → (u v : Y) → Member u (f x) → Member v (f y) → S u v) → Ascends R xs → Ascends S (flat_map f xs)
Ascends-flat_map R S f [] each g a = tt
Ascends-flat_map {X} {Y} R S f (x ∷ xs) each g a =
    Ascends-append S (f x) (flat_map f xs) (each x (inl refl)) (Ascends-flat_map R S f xs (λ y m. each y (inr m)) (λ y z m n. g y z (inr m) (inr n)) a.1) later
  where
    later : (u v : Y) → Member u (f x) → Member v (flat_map f xs) → S u v
    later u v m n =
        let (z, k, l) = Member-flat_map_cases f v xs n in
        g x z (inl refl) (inr k) (member_of_AllByRecursion (R x) z xs a.0 k) u v m l

pub Ascends-range : (a n : ℕ) → Ascends ◌<◌ (range_with_len a n)
Ascends-range a zero = tt
Ascends-range a (suc n) =
    (AllByRecursion-from_member (λ x. a < x) (range_with_len (a + 1) n) (λ x m. let r = Member-range_bounds (a + 1) n x m in omega arith), Ascends-range (a + 1) n)

-- what stands before an element is related to it
pub Member-get_or : {X : Type 0} (xs : List X) (k : ℕ) (d : X) → k < length xs → Member (get_or xs k d) xs
Member-get_or [] k d l = absurd (omega arith)
Member-get_or (x ∷ xs) zero d l = inl refl
Member-get_or (x ∷ xs) (suc k) d l = inr (Member-get_or xs k d (omega arith))

pub AllPairs-from_ascends : {X : Type 0} (R : X → X → Type 0) (xs : List X) → Ascends R xs → AllPairs R xs
AllPairs-from_ascends R [] a i j d l m = absurd (omega arith)
AllPairs-from_ascends R (x ∷ xs) a zero zero d l m = absurd (omega arith)
AllPairs-from_ascends R (x ∷ xs) a zero (suc j) d l m = member_of_AllByRecursion (R x) (get_or xs j d) xs a.0 (Member-get_or xs j d (omega arith))
AllPairs-from_ascends R (x ∷ xs) a (suc i) zero d l m = absurd (omega arith)
AllPairs-from_ascends R (x ∷ xs) a (suc i) (suc j) d l m = AllPairs-from_ascends R xs a.1 i j d (omega arith) (omega arith)
