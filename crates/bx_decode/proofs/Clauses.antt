-- Of a clause that bits make true some literal is true, and which it may be is told by how the clause is made.
use Rattle.std.proofs.Common.{◌≡◌, ℕ, zero, suc, ◌+◌, ◌<◌, ◌≤◌, ◌⊎◌, Bool, true, List, [], ◌∷◌, ◌++◌, map, length, get_or, Some, slice_get, inl, inr, refl, sym, ap, ◌∙◌, subst, arith}
use Rattle.std.proofs.lemmas.Bool.{false≢true, cases_lt}
use Rattle.std.proofs.lemmas.Option.{get_or_from_slice_get, slice_get-map}
use Rattle.std.specs.List.{range_with_len}
use Rattle.std.specs.Prelude.{option_map}
use Rattle.bx_logic.proofs.Members.{Member, Contains-from_member, Member-map, Member-append_left, Member-append_right}
use Rattle.bx_logic.proofs.Ordered.{at_or_above, Member-range}
use Rattle.bx_cnf.specs.Literals.{Literal, value_of, IsLiteralTrue}
use Rattle.bx_cnf.specs.Formulas.{IsClauseTrue, AllTrue}
use Rattle.bx_grid.specs.declared.ratio.Ratio.{Ratio}
use Rattle.bx_network.specs.Networks.{Network}
use Rattle.bx_encode.specs.declared.variable.Variable.{Variable}
use Rattle.bx_encode.specs.Variables.{number, isnt}
use Rattle.bx_encode.specs.Families.{Clause, pairs}

-- some literal of these is true
abbrev pub SomeTrue : List Bool → List Literal → Type 0
SomeTrue bits [] = ⊥
SomeTrue bits (l ∷ ls) = IsLiteralTrue bits l ⊎ SomeTrue bits ls

some-at : (bits : List Bool) (ls : List Literal) (k : ℕ) (x : Literal) → k < length ls → get_or ls k x ≡ x → IsLiteralTrue bits x → SomeTrue bits ls
some-at bits [] k x low e t = absurd (omega arith)
some-at bits (l ∷ ls) zero x low e t = inl (subst (IsLiteralTrue bits) (sym e) t)
some-at bits (l ∷ ls) (suc k) x low e t = inr (some-at bits ls k x (omega arith) e t)

some-of : (bits : List Bool) (c : Clause) → IsClauseTrue bits c → SomeTrue bits c
some-of bits c (k, x, low, e, t) = some-at bits c k x low e t

pub clause-true : (bits : List Bool) (clauses : List Clause) (c : Clause) → AllTrue bits clauses → Member c clauses → SomeTrue bits c
clause-true bits clauses c all own =
    let (k, low, at) = Contains-from_member c clauses own in
    some-of bits c (subst (IsClauseTrue bits) at (all k c low))

pub some-append : (bits : List Bool) (xs ys : List Literal) → SomeTrue bits (xs ++ ys) → SomeTrue bits xs ⊎ SomeTrue bits ys
some-append bits [] ys h = inr h
some-append bits (x ∷ xs) ys (inl t) = inl (inl t)
some-append bits (x ∷ xs) ys (inr h) = elim (some-append bits xs ys h) [ inl a ↦ inl (inr a) | inr b ↦ inr b ]

pub some-map : {X : Type 0} (bits : List Bool) (f : X → Literal) (xs : List X) → SomeTrue bits (map f xs) → (x : X) × Member x xs × IsLiteralTrue bits (f x)
some-map bits f [] h = absurd h
some-map bits f (x ∷ xs) (inl t) = (x, inl refl, t)
some-map bits f (x ∷ xs) (inr h) = let (y, m, t) = some-map bits f xs h in (y, inr m, t)

-- ---- what is true and what isn't

-- the bit of a variable is true
abbrev pub IsOn : Network → Ratio → List Bool → Variable → Type 0
IsOn N r bits x = value_of bits (number N r x) ≡ true

pub on-or-off : (N : Network) (r : Ratio) (bits : List Bool) (x : Variable) → IsOn N r bits x → IsLiteralTrue bits (isnt N r x) → ⊥
on-or-off N r bits x on off = false≢true (sym off ∙ on)

pub not-one : (N : Network) (r : Ratio) (bits : List Bool) (x : Variable) → SomeTrue bits (isnt N r x ∷ []) → IsOn N r bits x → ⊥
not-one N r bits x (inl off) on = on-or-off N r bits x on off
not-one N r bits x (inr none) on = none

pub not-both : (N : Network) (r : Ratio) (bits : List Bool) (x y : Variable) → SomeTrue bits (isnt N r x ∷ isnt N r y ∷ []) → IsOn N r bits x → IsOn N r bits y → ⊥
not-both N r bits x y (inl off) on other = on-or-off N r bits x on off
not-both N r bits x y (inr h) on other = not-one N r bits y h other

pub not-three : (N : Network) (r : Ratio) (bits : List Bool) (x y z : Variable) → SomeTrue bits (isnt N r x ∷ isnt N r y ∷ isnt N r z ∷ []) → IsOn N r bits x → IsOn N r bits y → IsOn N r bits z → ⊥
not-three N r bits x y z (inl off) on other third = on-or-off N r bits x on off
not-three N r bits x y z (inr h) on other third = not-both N r bits y z h other third

-- ---- pairs

-- of a list that is made number by number, two items are a pair
pub pairs-range : {X : Type 0} (f : ℕ → X) (a n i j : ℕ) → a ≤ i → i < j → j < a + n → Member (f i ∷ f j ∷ []) (pairs (map f (range_with_len a n)))
pairs-range {X} f a zero i j low up high = absurd (omega arith)
pairs-range {X} f a (suc n) i j low up high = elim (at_or_above a i low) [
  | inl e ↦ Member-append_left (f i ∷ f j ∷ []) first later (subst (λ k. Member (f k ∷ f j ∷ []) first) e
      (Member-map (λ y. f a ∷ y ∷ []) (f j) rest (Member-map f j (range_with_len (a + 1) n) (Member-range (a + 1) n j (omega arith) (omega arith)))))
  | inr above ↦ Member-append_right (f i ∷ f j ∷ []) first later (pairs-range f (a + 1) n i j above up (omega arith))
]
  where
    rest : List X
    rest = map f (range_with_len (a + 1) n)

    first : List (List X)
    first = map (λ y. f a ∷ y ∷ []) rest

    later : List (List X)
    later = pairs rest

-- at most one of these variables is on, where no two of them are
pub one-at-most : (N : Network) (r : Ratio) (bits : List Bool) (x : ℕ → Variable) (n : ℕ) →
    ((c : Clause) → Member c (pairs (map (λ k. isnt N r (x k)) (range_with_len 0 n))) → SomeTrue bits c) →
    (i j : ℕ) → i < n → j < n → IsOn N r bits (x i) → IsOn N r bits (x j) → i ≡ j
one-at-most N r bits x n all i j low high on other = elim (cases_lt i j) [
  | inl less ↦ absurd (apart i j less high on other)
  | inr more ↦ elim (cases_lt j i) [
    | inl less ↦ absurd (apart j i less low other on)
    | inr same ↦ omega arith
  ]
]
  where
    apart : (k l : ℕ) → k < l → l < n → IsOn N r bits (x k) → IsOn N r bits (x l) → ⊥
    apart k l up inside a b = not-both N r bits (x k) (x l) (all _ (pairs-range (λ m. isnt N r (x m)) 0 n k l (omega arith) up (omega arith))) a b

-- ---- reading

-- what a function makes of an item, read from the list that it makes of all
pub got-map : {X : Type 0} (f : X → ℕ) (xs : List X) (i : ℕ) (x : X) → slice_get xs i ≡ Some x → get_or (map f xs) i 0 ≡ f x
got-map f xs i x e = get_or_from_slice_get (map f xs) i (f x) 0 (slice_get-map f xs i ∙ ap (option_map f) e)
