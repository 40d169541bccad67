-- When a literal over a layout's bits is true: exactly where what its variable says holds. And when clauses
-- that are made from lists are all true.
use Rattle.std.proofs.Common.{◌≡◌, ℕ, zero, suc, ◌+◌, ◌<◌, ◌⊎◌, Bool, true, false, List, [], ◌∷◌, ◌++◌, map, filter, get_or, Contains, inl, inr, refl, sym, ◌∙◌, subst, arith}
use Rattle.std.specs.Prelude.{◌↔◌}
use Rattle.std.specs.List.{range_with_len}
use Rattle.std.proofs.lemmas.Bool.{false≢true}
use Rattle.std.proofs.lemmas.List.Elements.{All-nil, All-cons, All-append, All-map, Contains-get_or, Contains-append_left, Contains-append_right}
use Rattle.std.proofs.lemmas.List.FromFn.{length-range_with_len, get_or-range_with_len}
use Rattle.bx_logic.proofs.Members.{Member-from_contains, Contains-from_member, Member-map, Member-map_cases, Member-filter_cases}
use Rattle.bx_cnf.specs.Literals.{Literal, value_of, IsLiteralTrue}
use Rattle.bx_cnf.specs.Formulas.{IsClauseTrue, AllTrue}
use Rattle.bx_network.specs.Networks.{Network}
use Rattle.bx_layout.specs.declared.layout.Layout.{Layout}
use Rattle.bx_encode.specs.declared.variable.Variable.{Variable}
use Rattle.bx_encode.specs.Variables.{IsVariable, number, is, isnt}
use Rattle.bx_encode.specs.Families.{Clause, each, pairs}
use Rattle.bx_encode.specs.Bits.{Holds, AreBitsOf}
use Rattle.bx_encode.proofs.Entering.{Climbs, climbs-in}

-- ---- what lists contain

pub range-within : (n k : ℕ) → Contains (range_with_len 0 n) k → k < n
range-within n k (i, inside, at) =
    let long = length-range_with_len 0 n in
    let is = get_or-range_with_len 0 n i k (omega arith) in
    omega (arith, sym is ∙ at)

pub range-own : (n k : ℕ) → k < n → Contains (range_with_len 0 n) k
range-own n k low =
    let long = length-range_with_len 0 n in
    let at = get_or-range_with_len 0 n k k low in
    (k, omega arith, omega (arith, at))

pub range-climbs : (a n : ℕ) → Climbs a (a + n) (range_with_len a n)
range-climbs a zero = omega arith
range-climbs a (suc n) =
    let e : a + 1 + n ≡ a + suc n = omega arith in
    (omega arith, subst (λ high. Climbs (a + 1) high (range_with_len (a + 1) n)) e (range-climbs (a + 1) n))

pub first-own : {X : Type 0} (x : X) (xs : List X) → Contains (x ∷ xs) x
first-own x xs = (0, omega arith, refl)

pub later-own : {X : Type 0} (y : X) (xs : List X) (x : X) → Contains xs x → Contains (y ∷ xs) x
later-own y xs x own = Contains-append_right (y ∷ []) xs x own

pub map-own : {X Y : Type 0} (f : X → Y) (xs : List X) (x : X) → Contains xs x → Contains (map f xs) (f x)
map-own f xs x own = Contains-from_member (f x) (map f xs) (Member-map f x xs (Member-from_contains x xs own))

pub map-cases : {X Y : Type 0} (f : X → Y) (xs : List X) (y : Y) → Contains (map f xs) y → (x : X) × Contains xs x × (f x ≡ y)
map-cases f xs y own =
    let (x, one, e) = Member-map_cases f y xs (Member-from_contains y (map f xs) own) in
    (x, Contains-from_member x xs one, e)

pub filter-cases : {X : Type 0} (p : X → Bool) (xs : List X) (x : X) → Contains (filter p xs) x → Contains xs x × (p x ≡ true)
filter-cases p xs x own =
    let (one, passes) = Member-filter_cases p x xs (Member-from_contains x (filter p xs) own) in
    (Contains-from_member x xs one, passes)

-- ---- clauses under bits

module _ (bits : List Bool) where
  -- a clause is true by one of its literals
  pub clause-by : (ls : Clause) (l : Literal) → Contains ls l → IsLiteralTrue bits l → IsClauseTrue bits ls
  clause-by ls l (k, inside, at) h = (k, l, inside, at, h)

  pub clause-first : (l : Literal) (ls : Clause) → IsLiteralTrue bits l → IsClauseTrue bits (l ∷ ls)
  clause-first l ls h = clause-by (l ∷ ls) l (first-own l ls) h

  -- by some of its literals
  pub clause-left : (ls ms : Clause) → IsClauseTrue bits ls → IsClauseTrue bits (ls ++ ms)
  clause-left ls ms (k, l, inside, at, h) = clause-by (ls ++ ms) l (Contains-append_left ls ms l (k, inside, at)) h

  pub clause-right : (ls ms : Clause) → IsClauseTrue bits ms → IsClauseTrue bits (ls ++ ms)
  clause-right ls ms (k, l, inside, at, h) = clause-by (ls ++ ms) l (Contains-append_right ls ms l (k, inside, at)) h

  pub clause-rest : (l : Literal) (ls : Clause) → IsClauseTrue bits ls → IsClauseTrue bits (l ∷ ls)
  clause-rest l ls h = clause-right (l ∷ []) ls h

  -- by the literal of one item of a list
  pub clause-item : {X : Type 0} (f : X → Literal) (xs : List X) (x : X) → Contains xs x → IsLiteralTrue bits (f x) → IsClauseTrue bits (map f xs)
  clause-item f xs x own h = clause-by (map f xs) (f x) (map-own f xs x own) h

  -- ---- all clauses of a list

  pub all-none : AllTrue bits []
  all-none = All-nil (IsClauseTrue bits)

  pub all-more : (c : Clause) (cs : List Clause) → IsClauseTrue bits c → AllTrue bits cs → AllTrue bits (c ∷ cs)
  all-more c cs h rest = All-cons (IsClauseTrue bits) c cs h rest

  pub all-one : (c : Clause) → IsClauseTrue bits c → AllTrue bits (c ∷ [])
  all-one c h = all-more c [] h all-none

  pub all-append : (cs ds : List Clause) → AllTrue bits cs → AllTrue bits ds → AllTrue bits (cs ++ ds)
  all-append cs ds one other = All-append (IsClauseTrue bits) cs ds one other

  pub all-map : {X : Type 0} (f : X → Clause) (xs : List X) → ((x : X) → Contains xs x → IsClauseTrue bits (f x)) → AllTrue bits (map f xs)
  all-map f xs h = All-map (IsClauseTrue bits) f xs (λ k d inside. h (get_or xs k d) (Contains-get_or xs k d inside))

  pub all-each : {X : Type 0} (xs : List X) (f : X → List Clause) → ((x : X) → Contains xs x → AllTrue bits (f x)) → AllTrue bits (each xs f)
  all-each [] f h = all-none
  all-each (x ∷ xs) f h = all-append (f x) (each xs f) (h x (first-own x xs)) (all-each xs f (λ y own. h y (later-own x xs y own)))

  -- two and two of the literals of numbers that rise
  pub all-pairs : (f : ℕ → Literal) (low high : ℕ) (ns : List ℕ) → Climbs low high ns → ((a b : ℕ) → Contains ns a → Contains ns b → a < b → IsClauseTrue bits (f a ∷ f b ∷ [])) →
      AllTrue bits (pairs (map f ns))
  all-pairs f low high [] climbs h = all-none
  all-pairs f low high (n ∷ ns) (from, rest) h =
      all-append (map (λ l. f n ∷ l ∷ []) (map f ns)) (pairs (map f ns)) (all-map (λ l. f n ∷ l ∷ []) (map f ns) first) (all-pairs f (n + 1) high ns rest (λ a b one other. h a b (later-own n ns a one) (later-own n ns b other)))
    where
      first : (l : Literal) → Contains (map f ns) l → IsClauseTrue bits (f n ∷ l ∷ [])
      first l own =
          let (b, one, same) = map-cases f ns l own in
          let above = climbs-in (n + 1) high ns b rest one in
          subst (λ m. IsClauseTrue bits (f n ∷ m ∷ [])) same (h n b (first-own n ns) (later-own n ns b one) (omega (arith, above.above)))

  pub all-range : (f : ℕ → Literal) (n : ℕ) → ((a b : ℕ) → a < n → b < n → a < b → IsClauseTrue bits (f a ∷ f b ∷ [])) → AllTrue bits (pairs (map f (range_with_len 0 n)))
  all-range f n h = all-pairs f 0 (0 + n) (range_with_len 0 n) (range-climbs 0 n) (λ a b one other. h a b (range-within n a one) (range-within n b other))

-- ---- literals under the bits of a layout

false-unless : (b : Bool) → (b ≡ true → ⊥) → b ≡ false
false-unless true h = absurd (h refl)
false-unless false h = refl

true-or-false : (b : Bool) → (b ≡ true) ⊎ (b ≡ false)
true-or-false true = inl refl
true-or-false false = inr refl

module _ (N : Network) (L : Layout) (bits : List Bool) (are : AreBitsOf N L bits) (x : Variable) (own : IsVariable N L.ratio x) where
  pub is-true : IsLiteralTrue bits (is N L.ratio x) ↔ Holds L x
  is-true = are.each x own

  pub isnt-true : IsLiteralTrue bits (isnt N L.ratio x) ↔ (Holds L x → ⊥)
  isnt-true = (
    λ h holds. false≢true (sym h ∙ is-true.1 holds),
    λ fails. false-unless (value_of bits (number N L.ratio x)) (λ h. fails (is-true.0 h)),
  )

  -- what a variable says holds, or doesn't
  pub holds-or-not : Holds L x ⊎ (Holds L x → ⊥)
  holds-or-not = elim (true-or-false (value_of bits (number N L.ratio x))) [ inl h ↦ inl (is-true.0 h) | inr h ↦ inr (isnt-true.0 h) ]

  -- a clause that begins with `isnt x` is true if what is left is where x holds, and one that begins with `is x`
  -- if what is left is where x doesn't
  pub if-holds : (ls : Clause) → (Holds L x → IsClauseTrue bits ls) → IsClauseTrue bits (isnt N L.ratio x ∷ ls)
  if-holds ls rest = elim holds-or-not [
    | inl holds ↦ clause-rest bits (isnt N L.ratio x) ls (rest holds)
    | inr fails ↦ clause-first bits (isnt N L.ratio x) ls (isnt-true.1 fails)
  ]

  pub if-fails : (ls : Clause) → ((Holds L x → ⊥) → IsClauseTrue bits ls) → IsClauseTrue bits (is N L.ratio x ∷ ls)
  if-fails ls rest = elim holds-or-not [
    | inl holds ↦ clause-first bits (is N L.ratio x) ls (is-true.1 holds)
    | inr fails ↦ clause-rest bits (is N L.ratio x) ls (rest fails)
  ]

  -- the same where the literal is the last
  pub if-holds-last : (ls : Clause) → (Holds L x → IsClauseTrue bits ls) → IsClauseTrue bits (ls ++ isnt N L.ratio x ∷ [])
  if-holds-last ls rest = elim holds-or-not [
    | inl holds ↦ clause-left bits ls (isnt N L.ratio x ∷ []) (rest holds)
    | inr fails ↦ clause-right bits ls (isnt N L.ratio x ∷ []) (clause-first bits (isnt N L.ratio x) [] (isnt-true.1 fails))
  ]

  -- and where it is the only one
  pub only-is : Holds L x → IsClauseTrue bits (is N L.ratio x ∷ [])
  only-is holds = clause-first bits (is N L.ratio x) [] (is-true.1 holds)

  pub only-isnt : (Holds L x → ⊥) → IsClauseTrue bits (isnt N L.ratio x ∷ [])
  only-isnt fails = clause-first bits (isnt N L.ratio x) [] (isnt-true.1 fails)

-- clauses of two
module _ (N : Network) (L : Layout) (bits : List Bool) (are : AreBitsOf N L bits) (x y : Variable) (own : IsVariable N L.ratio x) (other : IsVariable N L.ratio y) where
  pub not-both : (Holds L x → Holds L y → ⊥) → IsClauseTrue bits (isnt N L.ratio x ∷ isnt N L.ratio y ∷ [])
  not-both apart = if-holds N L bits are x own (isnt N L.ratio y ∷ []) (λ h. only-isnt N L bits are y other (apart h))

  pub implies : (Holds L x → Holds L y) → IsClauseTrue bits (isnt N L.ratio x ∷ is N L.ratio y ∷ [])
  implies follows = if-holds N L bits are x own (is N L.ratio y ∷ []) (λ h. only-is N L bits are y other (follows h))

  pub implied : (Holds L y → Holds L x) → IsClauseTrue bits (is N L.ratio x ∷ isnt N L.ratio y ∷ [])
  implied follows = if-holds-last N L bits are y other (is N L.ratio x ∷ []) (λ h. only-is N L bits are x own (follows h))
