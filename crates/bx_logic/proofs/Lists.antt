-- Lists, whatever their items are: what std says of `get_or` and `All`, of `slice_get` and of `AllByRecursion`.
use Rattle.std.proofs.Common.{◌≡◌, ℕ, zero, suc, ◌+◌, ◌<◌, nat_lt, Bool, true, false, Some, None, List, [], ◌∷◌, ◌++◌, length, get_or, set, take, Contains, refl, sym, ◌∙◌, ap, subst, arith}
use Rattle.std.specs.List.{slice_get, AllByRecursion, position, position_or_len, range_with_len}
use Rattle.std.proofs.lemmas.Bool.{lt-ltb, le-ltb}
use Rattle.std.proofs.lemmas.List.{length-set, get_or-set_same, take_more}
use Rattle.std.proofs.lemmas.List.Sums.{position_or_len_is}
use Rattle.std.proofs.lemmas.Option.{slice_get_within, slice_get-get_or, get_or_from_slice_get}

pub Some-same : {X : Type 0} (x y : X) → Some x ≡ Some y → x ≡ y
Some-same x y e = cc

-- what holds of each item

pub all-append : {X : Type 0} (P : X → Type 0) (xs ys : List X) → AllByRecursion P xs → AllByRecursion P ys → AllByRecursion P (xs ++ ys)
all-append P [] ys a b = b
all-append P (x ∷ xs) ys a b = (a.0, all-append P xs ys a.1 b)

pub all-first : {X : Type 0} (P : X → Type 0) (xs ys : List X) → AllByRecursion P (xs ++ ys) → AllByRecursion P xs
all-first P [] ys a = tt
all-first P (x ∷ xs) ys a = (a.0, all-first P xs ys a.1)

pub all-second : {X : Type 0} (P : X → Type 0) (xs ys : List X) → AllByRecursion P (xs ++ ys) → AllByRecursion P ys
all-second P [] ys a = a
all-second P (x ∷ xs) ys a = all-second P xs ys a.1

pub all-push : {X : Type 0} (P : X → Type 0) (xs : List X) (x : X) → AllByRecursion P xs → P x → AllByRecursion P (xs ++ x ∷ [])
all-push P xs x a h = all-append P xs (x ∷ []) a (h, tt)

pub all-weaker : {X : Type 0} (P Q : X → Type 0) → ((x : X) → P x → Q x) → (xs : List X) → AllByRecursion P xs → AllByRecursion Q xs
all-weaker P Q h [] a = tt
all-weaker P Q h (x ∷ xs) a = (h x a.0, all-weaker P Q h xs a.1)

pub all-get_or : {X : Type 0} (P : X → Type 0) (xs : List X) (k : ℕ) (d : X) → k < length xs → AllByRecursion P xs → P (get_or xs k d)
all-get_or P [] k d l a = absurd (omega arith)
all-get_or P (x ∷ xs) zero d l a = a.0
all-get_or P (x ∷ xs) (suc k) d l a = all-get_or P xs k d (omega arith) a.1

pub all-from_get_or : {X : Type 0} (P : X → Type 0) (xs : List X) (d : X) → ((k : ℕ) → k < length xs → P (get_or xs k d)) → AllByRecursion P xs
all-from_get_or P [] d h = tt
all-from_get_or P (x ∷ xs) d h = (h 0 (omega arith), all-from_get_or P xs d (λ k l. h (suc k) (omega arith)))

pub all-get : {X : Type 0} (P : X → Type 0) (xs : List X) (k : ℕ) (x : X) → AllByRecursion P xs → slice_get xs k ≡ Some x → P x
all-get P xs k x a at = subst P (get_or_from_slice_get xs k x x at) (all-get_or P xs k x (slice_get_within xs k x at) a)

-- what stands at a place

pub get-once : {X : Type 0} (xs : List X) (k : ℕ) (x y : X) → slice_get xs k ≡ Some x → slice_get xs k ≡ Some y → x ≡ y
get-once xs k x y at too = Some-same x y (sym at ∙ too)

pub get-left : {X : Type 0} (xs ys : List X) (i : ℕ) → i < length xs → slice_get (xs ++ ys) i ≡ slice_get xs i
get-left [] ys i l = absurd (omega arith)
get-left (x ∷ xs) ys zero l = refl
get-left (x ∷ xs) ys (suc i) l = get-left xs ys i (omega arith)

pub get-right : {X : Type 0} (xs ys : List X) (i j : ℕ) → i ≡ length xs + j → slice_get (xs ++ ys) i ≡ slice_get ys j
get-right [] ys i j at = let same : i ≡ j = omega arith in ap (slice_get ys) same
get-right (x ∷ xs) ys zero j at = absurd (omega arith)
get-right (x ∷ xs) ys (suc i) j at = get-right xs ys i j (omega arith)

pub get-set_same : {X : Type 0} (xs : List X) (k : ℕ) (x : X) → k < length xs → slice_get (set xs k x) k ≡ Some x
get-set_same {X} xs k x l = slice_get-get_or (set xs k x) k x (omega (arith, length-set xs k x)) ∙ ap (λ (y : X). Some y) (get_or-set_same xs k x x l)

pub take-get : {X : Type 0} (xs : List X) (k : ℕ) (x : X) → slice_get xs k ≡ Some x → take (k + 1) xs ≡ take k xs ++ x ∷ []
take-get xs k x at = take_more xs k x (slice_get_within xs k x at) ∙ ap (λ y. take k xs ++ y ∷ []) (get_or_from_slice_get xs k x x at)

pub Contains-get : {X : Type 0} (xs : List X) (k : ℕ) (x : X) → slice_get xs k ≡ Some x → Contains xs x
Contains-get xs k x at = (k, slice_get_within xs k x at, get_or_from_slice_get xs k x x at)

-- the first place that passes a test

pub position-is : {X : Type 0} (p : X → Bool) (xs : List X) (j : ℕ) (d : X) → j < length xs → ((k : ℕ) → k < j → p (get_or xs k d) ≡ false) →
    p (get_or xs j d) ≡ true → position p xs ≡ Some j
position-is p xs j d l before here =
    let e = position_or_len_is p xs j d (omega arith) before (λ m. here) in
    let found : nat_lt (position_or_len p xs) (length xs) ≡ true = lt-ltb (position_or_len p xs) (length xs) (omega (arith, e)) in
    rw found (ap (λ (k : ℕ). Some k) e)

pub position-none : {X : Type 0} (p : X → Bool) (xs : List X) (d : X) → ((k : ℕ) → k < length xs → p (get_or xs k d) ≡ false) → position p xs ≡ None
position-none p xs d before =
    let e = position_or_len_is p xs (length xs) d (omega arith) before (λ m. absurd (omega arith)) in
    let missing : nat_lt (position_or_len p xs) (length xs) ≡ false = le-ltb (position_or_len p xs) (length xs) (omega (arith, e)) in
    rw missing refl

-- one number more of a range

pub range-more : (a n : ℕ) → range_with_len a (n + 1) ≡ range_with_len a n ++ (a + n) ∷ []
range-more a zero = ap (λ k. k ∷ []) (omega arith)
range-more a (suc n) =
    let more : suc n + 1 ≡ suc (n + 1) = omega arith in
    let last : a + 1 + n ≡ a + suc n = omega arith in
    ap (range_with_len a) more ∙ ap (λ zs. a ∷ zs) (range-more (a + 1) n ∙ ap (λ k. range_with_len (a + 1) n ++ k ∷ []) last)
