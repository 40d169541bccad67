-- Membership by recursion, through the functions that make a list of another.
use Rattle.std.proofs.Common.{◌≡◌, ℕ, zero, suc, ◌<◌, ◌⊎◌, Bool, true, false, cond, List, [], ◌∷◌, ◌++◌, map, filter, flat_map, length, get_or, Contains, inl, inr, refl, sym, ap, ◌∙◌, subst, arith}
use Rattle.std.specs.List.{AllByRecursion}

abbrev pub Member : {X : Type 0} → X → List X → Type 0
Member x [] = ⊥
Member x (y ∷ ys) = (y ≡ x) ⊎ Member x ys

pub Contains-from_member : {X : Type 0} (x : X) (xs : List X) → Member x xs → Contains xs x
Contains-from_member x [] h = absurd h
Contains-from_member x (y ∷ ys) (inl e) = (0, omega arith, e)
Contains-from_member x (y ∷ ys) (inr h) =
    let (k, l, e) = Contains-from_member x ys h in (suc k, omega arith, e)

pub Member-from_get_or : {X : Type 0} (x : X) (xs : List X) (k : ℕ) → k < length xs → get_or xs k x ≡ x → Member x xs
Member-from_get_or x [] k l e = absurd (omega arith)
Member-from_get_or x (y ∷ ys) zero l e = inl e
Member-from_get_or x (y ∷ ys) (suc k) l e = inr (Member-from_get_or x ys k (omega arith) e)

pub Member-from_contains : {X : Type 0} (x : X) (xs : List X) → Contains xs x → Member x xs
Member-from_contains x xs h = Member-from_get_or x xs h.0 h.1 h.2

pub Member-append_left : {X : Type 0} (x : X) (xs ys : List X) → Member x xs → Member x (xs ++ ys)
Member-append_left x [] ys h = absurd h
Member-append_left x (z ∷ zs) ys (inl e) = inl e
Member-append_left x (z ∷ zs) ys (inr h) = inr (Member-append_left x zs ys h)

pub Member-append_right : {X : Type 0} (x : X) (xs ys : List X) → Member x ys → Member x (xs ++ ys)
Member-append_right x [] ys h = h
Member-append_right x (z ∷ zs) ys h = inr (Member-append_right x zs ys h)

pub Member-append_cases : {X : Type 0} (x : X) (xs ys : List X) → Member x (xs ++ ys) → Member x xs ⊎ Member x ys
Member-append_cases x [] ys h = inr h
Member-append_cases x (z ∷ zs) ys (inl e) = inl (inl e)
Member-append_cases x (z ∷ zs) ys (inr h) =
    elim (Member-append_cases x zs ys h) [ inl a ↦ inl (inr a) | inr b ↦ inr b ]

filter_step : {X : Type 0} (x y : X) (ys : List X) (b : Bool) → Member x (cond b (y ∷ ys) ys) → ((y ≡ x) × (b ≡ true)) ⊎ Member x ys
filter_step x y ys true (inl e) = inl (e, refl)
filter_step x y ys true (inr h) = inr h
filter_step x y ys false h = inr h

pub Member-filter_cases : {X : Type 0} (p : X → Bool) (x : X) (xs : List X) → Member x (filter p xs) → Member x xs × (p x ≡ true)
Member-filter_cases p x [] h = absurd h
Member-filter_cases p x (y ∷ ys) h =
    elim (filter_step x y (filter p ys) (p y) h) [
      | inl (e, t) ↦ (inl e, (sym (ap p e) ∙ t))
      | inr m ↦ (let r = Member-filter_cases p x ys m in (inr r.0, r.1))
    ]

pub Member-filter : {X : Type 0} (p : X → Bool) (x : X) (xs : List X) → p x ≡ true → Member x xs → Member x (filter p xs)
Member-filter p x [] t h = absurd h
Member-filter p x (y ∷ ys) t (inl e) = rw (ap p e ∙ t) (inl e)
Member-filter p x (y ∷ ys) t (inr h) = kept (p y) (Member-filter p x ys t h)
  where
    kept : (b : Bool) → Member x (filter p ys) → Member x (cond b (y ∷ filter p ys) (filter p ys))
    kept true m = inr m
    kept false m = m

pub Member-map : {X Y : Type 0} (f : X → Y) (x : X) (xs : List X) → Member x xs → Member (f x) (map f xs)
Member-map f x [] h = absurd h
Member-map f x (y ∷ ys) (inl e) = inl (ap f e)
Member-map f x (y ∷ ys) (inr h) = inr (Member-map f x ys h)

pub Member-map_cases : {X Y : Type 0} (f : X → Y) (y : Y) (xs : List X) → Member y (map f xs) → (x : X) × Member x xs × (f x ≡ y)
Member-map_cases f y [] h = absurd h
Member-map_cases f y (x ∷ xs) (inl e) = (x, inl refl, e)
Member-map_cases f y (x ∷ xs) (inr h) =
    let (z, m, e) = Member-map_cases f y xs h in (z, inr m, e)

pub Member-flat_map : {X Y : Type 0} (f : X → List Y) (x : X) (y : Y) (xs : List X) → Member x xs → Member y (f x) → Member y (flat_map f xs)
Member-flat_map f x y [] h m = absurd h
Member-flat_map f x y (z ∷ zs) (inl e) m = Member-append_left y (f z) (flat_map f zs) (rw e m)
Member-flat_map f x y (z ∷ zs) (inr h) m = Member-append_right y (f z) (flat_map f zs) (Member-flat_map f x y zs h m)

pub Member-flat_map_cases : {X Y : Type 0} (f : X → List Y) (y : Y) (xs : List X) → Member y (flat_map f xs) → (x : X) × Member x xs × Member y (f x)
Member-flat_map_cases f y [] h = absurd h
Member-flat_map_cases f y (x ∷ xs) h =
    elim (Member-append_cases y (f x) (flat_map f xs) h) [
      | inl a ↦ (x, inl refl, a)
      | inr b ↦ (let (z, m, e) = Member-flat_map_cases f y xs b in (z, inr m, e))
    ]

pub AllByRecursion-from_member : {X : Type 0} (P : X → Type 0) (xs : List X) → ((x : X) → Member x xs → P x) → AllByRecursion P xs
AllByRecursion-from_member P [] f = tt
AllByRecursion-from_member P (x ∷ xs) f = (f x (inl refl), AllByRecursion-from_member P xs (λ y m. f y (inr m)))

pub member_of_AllByRecursion : {X : Type 0} (P : X → Type 0) (x : X) (xs : List X) → AllByRecursion P xs → Member x xs → P x
member_of_AllByRecursion P x [] a h = absurd h
member_of_AllByRecursion P x (y ∷ ys) a (inl e) = subst P e a.0
member_of_AllByRecursion P x (y ∷ ys) a (inr h) = member_of_AllByRecursion P x ys a.1 h

-- the same of `Contains`

pub Contains-here : {X : Type 0} (x : X) (xs : List X) → Contains (x ∷ xs) x
Contains-here x xs = (0, omega arith, refl)

pub Contains-there : {X : Type 0} (y : X) (xs : List X) (x : X) → Contains xs x → Contains (y ∷ xs) x
Contains-there y xs x (k, l, e) = (suc k, omega arith, e)

pub Contains-map : {X Y : Type 0} (f : X → Y) (xs : List X) (x : X) → Contains xs x → Contains (map f xs) (f x)
Contains-map f xs x h = Contains-from_member (f x) (map f xs) (Member-map f x xs (Member-from_contains x xs h))
