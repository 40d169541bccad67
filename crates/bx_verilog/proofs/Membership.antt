-- What a list has: where a member stands, the same by place where a clause has it so, and counts of members.
use Rattle.std.proofs.Common.{◌≡◌, ◌≢◌, ℕ, ◌+◌, ◌≤◌, ◌⊎◌, Bool, true, false, cond, List, [], ◌∷◌, ◌++◌, map, filter, get_or, Contains, inl, inr, refl, sym, ap, ◌∙◌, subst, arith}
use Rattle.std.specs.List.{count_by}
use Rattle.std.proofs.lemmas.Bool.{cases_Bool, cond-true, cond-false}
use Rattle.std.proofs.lemmas.List.Sums.{sum_by-cons, sum_by-append, get_or-le-sum_by}
use Rattle.bx_logic.specs.Lists.{AreDistinct}
use Rattle.bx_logic.proofs.Members.{AllByRecursion-from_member, Contains-from_member, Member, Member-filter, Member-filter_cases, Member-from_contains, Member-map, member_of_AllByRecursion}

-- the list up to a member, and what follows it
pub Member-splits : {X : Type 0} (x : X) (xs : List X) → Member x xs → (before after : List X) × (xs ≡ before ++ x ∷ after)
Member-splits x [] h = absurd h
Member-splits x (y ∷ ys) (inl e) = ([], ys, ap (λ z. z ∷ ys) e)
Member-splits x (y ∷ ys) (inr h) =
    let (before, after, e) = Member-splits x ys h in (y ∷ before, after, ap (λ zs. y ∷ zs) e)

-- The same by place.

module _ {X : Type 0} where
  pub Contains-nil : (x : X) → Contains [] x → ⊥
  Contains-nil x h = Member-from_contains x [] h

  pub Contains-here : (x : X) (xs : List X) → Contains (x ∷ xs) x
  Contains-here x xs = Contains-from_member x (x ∷ xs) (inl refl)

  pub Contains-there : (y : X) (xs : List X) (x : X) → Contains xs x → Contains (y ∷ xs) x
  Contains-there y xs x h = Contains-from_member x (y ∷ xs) (inr (Member-from_contains x xs h))

  pub Contains-cases : (y : X) (xs : List X) (x : X) → Contains (y ∷ xs) x → (y ≡ x) ⊎ Contains xs x
  Contains-cases y xs x h = elim (Member-from_contains x (y ∷ xs) h) [
    | inl same ↦ inl same
    | inr rest ↦ inr (Contains-from_member x xs rest)
  ]

  pub Contains-filter : (p : X → Bool) (xs : List X) (x : X) → Contains xs x → p x ≡ true → Contains (filter p xs) x
  Contains-filter p xs x h passes = Contains-from_member x (filter p xs) (Member-filter p x xs passes (Member-from_contains x xs h))

  pub Contains-from_filter : (p : X → Bool) (xs : List X) (x : X) → Contains (filter p xs) x → Contains xs x
  Contains-from_filter p xs x h = Contains-from_member x xs (Member-filter_cases p x xs (Member-from_contains x (filter p xs) h)).0

  pub AreDistinct-filter : (p : X → Bool) (xs : List X) → AreDistinct xs → AreDistinct (filter p xs)
  AreDistinct-filter p [] h = h
  AreDistinct-filter p (y ∷ ys) h = elim (cases_Bool (p y)) [
    | inl pass ↦ subst AreDistinct (sym (cond-true (p y) (y ∷ filter p ys) (filter p ys) pass)) (
      AllByRecursion-from_member (λ x. x ≢ y) (filter p ys)
          (λ x m. member_of_AllByRecursion (λ x. x ≢ y) x ys h.0 (Member-filter_cases p x ys m).0),
      AreDistinct-filter p ys h.1,
    )
    | inr fail ↦ subst AreDistinct (sym (cond-false (p y) (y ∷ filter p ys) (filter p ys) fail)) (AreDistinct-filter p ys h.1)
  ]

pub Contains-map : {X Y : Type 0} (f : X → Y) (xs : List X) (x : X) → Contains xs x → Contains (map f xs) (f x)
Contains-map f xs x h = Contains-from_member (f x) (map f xs) (Member-map f x xs (Member-from_contains x xs h))

-- Counts.

pub counted : {X : Type 0} (p : X → Bool) (x : X) (xs : List X) → count_by p (x ∷ xs) ≡ cond (p x) 1 0 + count_by p xs
counted p x xs = sum_by-cons (λ y. cond (p y) 1 0) x xs

-- an element that passes is counted
pub count_by-some : {X : Type 0} (p : X → Bool) (xs : List X) (x : X) → Contains xs x → p x ≡ true → 1 ≤ count_by p xs
count_by-some p xs x h passes =
    let least = get_or-le-sum_by (λ y. cond (p y) 1 0) xs h.0 x h.1 in
    let counts = cond-true {A = ℕ} (p (get_or xs h.0 x)) 1 0 (ap p h.2 ∙ passes) in
    omega (arith, least, counts)

-- what is counted is an element that passes
pub Contains-counted : {X : Type 0} (p : X → Bool) (xs : List X) → 1 ≤ count_by p xs → (x : X) × Contains xs x × (p x ≡ true)
Contains-counted p [] h = absurd (omega arith)
Contains-counted p (y ∷ ys) h = elim (cases_Bool (p y)) [
  | inl pass ↦ (y, Contains-here y ys, pass)
  | inr fail ↦
      let none = cond-false {A = ℕ} (p y) 1 0 fail in
      let found = Contains-counted p ys (omega (arith, h, counted p y ys, none)) in
      (found.0, Contains-there y ys found.0 found.1, found.2)
]

pub counted-append : {X : Type 0} (p : X → Bool) (xs ys : List X) → count_by p (xs ++ ys) ≡ count_by p xs + count_by p ys
counted-append p xs ys = sum_by-append (λ y. cond (p y) 1 0) xs ys

one_of : (b : Bool) → b ≡ true → ◌≡◌ {A = ℕ} (cond b 1 0) 1
one_of true e = refl
one_of false e = cc

-- two that pass, where one passes at most, are the same
pub counted-same : {X : Type 0} (p : X → Bool) (x y : X) (xs : List X) → count_by p xs ≤ 1 → Member x xs → Member y xs → p x ≡ true → p y ≡ true → x ≡ y
counted-same p x y [] few h k i j = absurd h
counted-same p x y (z ∷ zs) few (inl e) (inl f) i j = sym e ∙ f
counted-same p x y (z ∷ zs) few (inl e) (inr k) i j =
    absurd (omega (arith, counted p z zs, one_of (p z) (ap p e ∙ i), count_by-some p zs y (Contains-from_member y zs k) j))
counted-same p x y (z ∷ zs) few (inr h) (inl f) i j =
    absurd (omega (arith, counted p z zs, one_of (p z) (ap p f ∙ j), count_by-some p zs x (Contains-from_member x zs h) i))
counted-same p x y (z ∷ zs) few (inr h) (inr k) i j =
    counted-same p x y zs (omega (arith, counted p z zs)) h k i j
