-- The first place of a list that passes a test.
use Rattle.std.proofs.Common.{◌≡◌, ℕ, ◌+◌, ◌<◌, Bool, true, false, not, List, [], ◌∷◌, length, get_or, map, nat_lt, Some, None, refl, ap, ◌∙◌, arith, lt-ltb}
use Rattle.std.specs.Prelude.{position}
use Rattle.std.specs.Option.{unwrap_or}
use Rattle.std.specs.List.{AllByRecursion, position_or_len}
use Rattle.std.proofs.lemmas.Bool.{cond-true, not_from_false}
use Rattle.std.proofs.lemmas.List.Quantifiers.{position-Some}
use Rattle.std.proofs.lemmas.List.Sums.{prefix_len-le-length}

-- where none passes, the place is the length
pub unwrap_or-position : {X : Type 0} (p : X → Bool) (xs : List X) → unwrap_or (position p xs) (length xs) ≡ position_or_len p xs
unwrap_or-position p xs = grind (arith, prefix_len-le-length (λ x. not (p x)) xs)

pub position_or_len-map : {X Y : Type 0} (f : X → Y) (p : Y → Bool) (xs : List X) → position_or_len p (map f xs) ≡ position_or_len (λ x. p (f x)) xs
position_or_len-map f p [] = refl
position_or_len-map f p (x ∷ xs) = rw (position_or_len-map f p xs) refl

-- where some element passes, the place is that of the first one
pub position-of : {X : Type 0} (p : X → Bool) (xs : List X) (i : ℕ) → position_or_len p xs ≡ i → i < length xs → position p xs ≡ Some i
position-of p xs i e l =
    let less : position_or_len p xs < length xs = omega arith in
    cond-true (nat_lt (position_or_len p xs) (length xs)) (Some (position_or_len p xs)) None (lt-ltb (position_or_len p xs) (length xs) less) ∙ ap Some e

pub passes-at : {X : Type 0} (p : X → Bool) (xs : List X) (i : ℕ) (d : X) → position_or_len p xs ≡ i → i < length xs → p (get_or xs i d) ≡ true
passes-at p xs i d e l = (position-Some p xs i d (position-of p xs i e l)).1

-- a list of which none passes
pub none-passes : {X : Type 0} (p : X → Bool) (xs : List X) → AllByRecursion (λ x. p x ≡ false) xs → position_or_len p xs ≡ length xs
none-passes p [] h = refl
none-passes p (x ∷ xs) h =
    let on = cond-true (not (p x)) (1 + position_or_len p xs) 0 (not_from_false (p x) h.0) in
    omega (arith, on, none-passes p xs h.1)
