-- What is read of a list at a place, and lists of which one item passes a test.
use Rattle.std.proofs.Common.{◌≡◌, ℕ, zero, suc, ◌<◌, Bool, true, false, List, [], ◌∷◌, filter, length, get_or, replicate, Some, refl, sym, ap, ◌∙◌, arith}
use Rattle.std.specs.List.{slice_get, position_or_len}
use Rattle.std.proofs.lemmas.List.{length-replicate}
use Rattle.std.proofs.lemmas.Option.{slice_get-get_or}
-- the same of any list stands in std and in bx_logic
pub use Rattle.std.proofs.lemmas.Option.{slice_get_within as got-within, get_or_from_slice_get as got-get_or, slice_get-get_or as got-slice_get}
pub use Rattle.bx_logic.proofs.Lists.{all-get as got-all}

-- what stands at a place of a list
pub record IsAt {X : Type 0} (xs : List X) (i : ℕ) : Type 0 where
  pub item : X
  pub at : slice_get xs i ≡ Some item

pub got-at : {X : Type 0} (xs : List X) (i : ℕ) → i < length xs → IsAt xs i
got-at [] i h = absurd (omega arith)
got-at (y ∷ ys) i h = record { item = get_or (y ∷ ys) i y; at = slice_get-get_or (y ∷ ys) i y h }

-- no item passes
none-left : {X : Type 0} (p : X → Bool) (x : X) (xs : List X) (b : Bool) → p x ≡ b → length (filter p (x ∷ xs)) ≡ 0 → (b ≡ false) × (length (filter p xs) ≡ 0)
none-left p x xs true h e = absurd (let f : suc (length (filter p xs)) ≡ 0 = rw h at e in omega arith)
none-left p x xs false h e = (refl, rw h at e)

pub none-passes : {X : Type 0} (p : X → Bool) (xs : List X) → length (filter p xs) ≡ 0 → (j : ℕ) (y : X) → slice_get xs j ≡ Some y → p y ≡ false
none-passes p [] e j y at = absurd (cc)
none-passes p (x ∷ xs) e zero y at = let head = none-left p x xs (p x) refl e in let same : x ≡ y = cc in ap p (sym same) ∙ head.0
none-passes p (x ∷ xs) e (suc j) y at = none-passes p xs (none-left p x xs (p x) refl e).1 j y at

-- the place of the one item that passes
pub record IsOnly {X : Type 0} (p : X → Bool) (xs : List X) : Type 0 where
  pub item : X
  pub at : slice_get xs (position_or_len p xs) ≡ Some item
  pub passes : p item ≡ true
  pub only : (j : ℕ) (y : X) → slice_get xs j ≡ Some y → p y ≡ true → j ≡ position_or_len p xs

only-head : {X : Type 0} (p : X → Bool) (x : X) (xs : List X) → p x ≡ true → length (filter p xs) ≡ 0 → IsOnly p (x ∷ xs)
only-head p x xs h none =
    let first : position_or_len p (x ∷ xs) ≡ 0 = rw h refl in
    record {
      item = x;
      at = ap (slice_get (x ∷ xs)) first;
      passes = h;
      only = λ j y at passes. only-at j y at passes ∙ sym first;
    }
  where
    only-at : (j : ℕ) (y : _) → slice_get (x ∷ xs) j ≡ Some y → p y ≡ true → j ≡ 0
    only-at zero y at passes = refl
    only-at (suc j) y at passes = let out = none-passes p xs none j y at in absurd (cc)

only-tail : {X : Type 0} (p : X → Bool) (x : X) (xs : List X) → p x ≡ false → IsOnly p xs → IsOnly p (x ∷ xs)
only-tail p x xs h rest =
    let first : position_or_len p (x ∷ xs) ≡ suc (position_or_len p xs) = rw h (omega arith) in
    record {
      item = rest.item;
      at = ap (slice_get (x ∷ xs)) first ∙ rest.at;
      passes = rest.passes;
      only = λ j y at passes. only-at j y at passes ∙ sym first;
    }
  where
    only-at : (j : ℕ) (y : _) → slice_get (x ∷ xs) j ≡ Some y → p y ≡ true → j ≡ suc (position_or_len p xs)
    only-at zero y at passes = let same : x ≡ y = cc in absurd (cc (ap p same))
    only-at (suc j) y at passes = ap suc (rest.only j y at passes)

one-by : {X : Type 0} (p : X → Bool) (x : X) (xs : List X) (b : Bool) → p x ≡ b → (length (filter p xs) ≡ 1 → IsOnly p xs) → length (filter p (x ∷ xs)) ≡ 1 → IsOnly p (x ∷ xs)
one-by p x xs true h later e = let f : suc (length (filter p xs)) ≡ 1 = rw h at e in only-head p x xs h (omega arith)
one-by p x xs false h later e = only-tail p x xs h (later (rw h at e))

pub one-passes : {X : Type 0} (p : X → Bool) (xs : List X) → length (filter p xs) ≡ 1 → IsOnly p xs
one-passes p [] e = absurd (omega arith)
one-passes p (x ∷ xs) e = one-by p x xs (p x) refl (one-passes p xs) e

pub got-replicate : (n v : ℕ) → get_or (replicate {A = ℕ} n 0) v 0 ≡ 0
got-replicate zero v = refl
got-replicate (suc n) zero = refl
got-replicate (suc n) (suc v) = got-replicate n v

pub length-got-replicate : (n : ℕ) → length (replicate {A = ℕ} n 0) ≡ n
length-got-replicate n = length-replicate n 0
