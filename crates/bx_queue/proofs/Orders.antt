-- Orders of variables: what moving one to the front keeps, and what the first free one is.
use Rattle.std.proofs.Common.{◌≡◌, ◌≢◌, ℕ, suc, zero, ◌+◌, ◌-◌, ◌<◌, ◌≤◌, Bool, true, false, not, ◌==◌, List, [], ◌∷◌, ◌++◌, length, Option, Some, None, Contains, filter, find, refl, sym, ap, subst, ◌∙◌, arith, ◌⊎◌, inl, inr, IfSome}
use Rattle.std.specs.List.{AllByRecursion, range_with_len, All}
use Rattle.std.proofs.lemmas.Bool.{cases_Bool, cond-true, cond-false, cases_eq, eq-eqb, ne_eqb, not-true, not-false}
use Rattle.std.proofs.lemmas.List.Elements.{Contains-append_right, Contains-push_cases, Contains-append_cases, All-contains_itself, All-weaker}
use Rattle.std.proofs.lemmas.List.FromFn.{length-range_with_len, get_or-range_with_len}
use Rattle.bx_logic.specs.Lists.{AreDistinct}
use Rattle.bx_queue.specs.Queue.{Queue, IsQueue, IsVariable, is_taken, first_free, without, moved_to_front}

pub Contains-here : {X : Type 0} (x : X) (xs : List X) → Contains (x ∷ xs) x
Contains-here x xs = (0, omega arith, refl)

pub Contains-there : {X : Type 0} (y : X) (xs : List X) (x : X) → Contains xs x → Contains (y ∷ xs) x
Contains-there y xs x h = Contains-append_right (y ∷ []) xs x h

pub Contains-cases : {X : Type 0} (y : X) (xs : List X) (x : X) → Contains (y ∷ xs) x → (y ≡ x) ⊎ Contains xs x
Contains-cases y xs x h = elim (Contains-append_cases (y ∷ []) xs x h) [
  | inl front ↦ elim (Contains-push_cases [] y x front) [
    | inl none ↦ absurd (omega (arith, none.1))
    | inr same ↦ inl same
  ]
  | inr rest ↦ inr rest
]

-- two numbers are the same, or the test says that they aren't
pub same_or_not : (x v : ℕ) → ((x ≡ v) × ((x == v) ≡ true)) ⊎ ((x ≢ v) × ((x == v) ≡ false))
same_or_not x v = elim (cases_eq x v) [ inl e ↦ inl (e, eq-eqb x v e) | inr n ↦ inr (n, ne_eqb x v n) ]

pub without-same : (v x : ℕ) (xs : List ℕ) → (x == v) ≡ true → without v (x ∷ xs) ≡ xs
without-same v x xs e = cond-true (x == v) xs (x ∷ without v xs) e

pub without-other : (v x : ℕ) (xs : List ℕ) → (x == v) ≡ false → without v (x ∷ xs) ≡ x ∷ without v xs
without-other v x xs e = cond-false (x == v) xs (x ∷ without v xs) e

-- marks alone don't tell whether it is a queue
pub IsQueue-marks : (order : List ℕ) (taken marks : List Bool) → length marks ≡ length taken
    → IsQueue (record { order = order; taken = taken }) → IsQueue (record { order = order; taken = marks })
IsQueue-marks order taken marks e q =
    record {
      within = λ v h. subst (λ n. IsVariable n v) (sym e) (q.within v h);
      all = λ v h. q.all v (subst (λ n. IsVariable n v) e h);
      once = q.once;
    }

abbrev isnt : ℕ → ℕ → Bool
isnt v x = not (x == v)

filter-yes : (v x : ℕ) (xs : List ℕ) → (x == v) ≡ false → filter (isnt v) (x ∷ xs) ≡ x ∷ filter (isnt v) xs
filter-yes v x xs e = cond-true (isnt v x) (x ∷ filter (isnt v) xs) (filter (isnt v) xs) (ap not e)

filter-no : (v x : ℕ) (xs : List ℕ) → (x == v) ≡ true → filter (isnt v) (x ∷ xs) ≡ filter (isnt v) xs
filter-no v x xs e = cond-false (isnt v x) (x ∷ filter (isnt v) xs) (filter (isnt v) xs) (ap not e)

pub filter-without : (v : ℕ) (xs : List ℕ) → filter (λ x. not (x == v)) (without v xs) ≡ filter (λ x. not (x == v)) xs
filter-without v [] = refl
filter-without v (x ∷ xs) = elim (same_or_not x v) [
  | inl same ↦ ap (filter (isnt v)) (without-same v x xs same.1) ∙ sym (filter-no v x xs same.1)
  | inr other ↦ ap (filter (isnt v)) (without-other v x xs other.1) ∙ (filter-yes v x (without v xs) other.1 ∙ (ap (λ zs. x ∷ zs) (filter-without v xs) ∙ sym (filter-yes v x xs other.1)))
]

pub filter-moved : (v : ℕ) (xs : List ℕ) → filter (λ x. not (x == v)) (moved_to_front v xs) ≡ filter (λ x. not (x == v)) xs
filter-moved v xs = elim (same_or_not v v) [
  | inl same ↦ filter-no v v (without v xs) same.1 ∙ filter-without v xs
  | inr other ↦ absurd (other.0 refl)
]

-- who is in it: what stood there before, and nothing else
without-within : (v y : ℕ) (xs : List ℕ) → Contains (without v xs) y → Contains xs y
without-within v y [] h = h
without-within v y (x ∷ xs) h = elim (same_or_not x v) [
  | inl same ↦ Contains-there x xs y (subst (λ zs. Contains zs y) (without-same v x xs same.1) h)
  | inr other ↦ elim (Contains-cases x (without v xs) y (subst (λ zs. Contains zs y) (without-other v x xs other.1) h)) [
    | inl here ↦ subst (λ z. Contains (x ∷ xs) z) here (Contains-here x xs)
    | inr rest ↦ Contains-there x xs y (without-within v y xs rest)
  ]
]

without-keeps : (v y : ℕ) (xs : List ℕ) → v ≢ y → Contains xs y → Contains (without v xs) y
without-keeps v y [] n h = h
without-keeps v y (x ∷ xs) n h = elim (same_or_not x v) [
  | inl same ↦ subst (λ zs. Contains zs y) (sym (without-same v x xs same.1)) (elim (Contains-cases x xs y h) [
    | inl here ↦ absurd (n (sym same.0 ∙ here))
    | inr rest ↦ rest
  ])
  | inr other ↦ subst (λ zs. Contains zs y) (sym (without-other v x xs other.1)) (elim (Contains-cases x xs y h) [
    | inl here ↦ subst (λ z. Contains (x ∷ without v xs) z) here (Contains-here x (without v xs))
    | inr rest ↦ Contains-there x (without v xs) y (without-keeps v y xs n rest)
  ])
]

-- what holds of each holds of each that is left
pub AllByRecursion-without : (P : ℕ → Type 0) (v : ℕ) (xs : List ℕ) → AllByRecursion P xs → AllByRecursion P (without v xs)
AllByRecursion-without P v [] h = h
AllByRecursion-without P v (x ∷ xs) h = elim (same_or_not x v) [
  | inl same ↦ subst (AllByRecursion P) (sym (without-same v x xs same.1)) h.1
  | inr other ↦ subst (AllByRecursion P) (sym (without-other v x xs other.1)) (h.0, AllByRecursion-without P v xs h.1)
]

pub AreDistinct-without : (v : ℕ) (xs : List ℕ) → AreDistinct xs → AreDistinct (without v xs)
AreDistinct-without v [] h = h
AreDistinct-without v (x ∷ xs) h = elim (same_or_not x v) [
  | inl same ↦ subst (AreDistinct {X = ℕ}) (sym (without-same v x xs same.1)) h.1
  | inr other ↦ subst (AreDistinct {X = ℕ}) (sym (without-other v x xs other.1)) (AllByRecursion-without (λ y. y ≢ x) v xs h.0, AreDistinct-without v xs h.1)
]

-- where it stands once, it is gone
pub without-gone : (v : ℕ) (xs : List ℕ) → AreDistinct xs → AllByRecursion (λ y. y ≢ v) (without v xs)
without-gone v [] h = tt
without-gone v (x ∷ xs) h = elim (same_or_not x v) [
  | inl same ↦ subst (AllByRecursion (λ y. y ≢ v)) (sym (without-same v x xs same.1)) (subst (λ z. AllByRecursion (λ y. y ≢ z) xs) same.0 h.0)
  | inr other ↦ subst (AllByRecursion (λ y. y ≢ v)) (sym (without-other v x xs other.1)) (other.0, without-gone v xs h.1)
]

pub IsQueue-moved : (v : ℕ) (order : List ℕ) (taken : List Bool) → IsVariable (length taken) v
    → IsQueue (record { order = order; taken = taken }) → IsQueue (record { order = moved_to_front v order; taken = taken })
IsQueue-moved v order taken variable q =
    record {
      within = λ y h. elim (Contains-cases v (without v order) y h) [
        | inl here ↦ subst (IsVariable (length taken)) here variable
        | inr rest ↦ q.within y (without-within v y order rest)
      ];
      all = λ y h. elim (same_or_not v y) [
        | inl same ↦ subst (λ z. Contains (v ∷ without v order) z) same.0 (Contains-here v (without v order))
        | inr other ↦ Contains-there v (without v order) y (without-keeps v y order other.0 (q.all y h))
      ];
      once = (without-gone v order q.once, AreDistinct-without v order q.once);
    }

pub All-variables : (order : List ℕ) (taken : List Bool) → IsQueue (record { order = order; taken = taken }) → All (IsVariable (length taken)) order
All-variables order taken q = All-weaker (Contains order) (IsVariable (length taken)) q.within order (All-contains_itself order)

-- what is found in a list passes the test and is one of it; where nothing is found, nothing passes
module _ (free : ℕ → Bool) where
  find-yes : (x : ℕ) (xs : List ℕ) → free x ≡ true → find free (x ∷ xs) ≡ Some x
  find-yes x xs e = cond-true (free x) (Some x) (find free xs) e

  find-no : (x : ℕ) (xs : List ℕ) → free x ≡ false → find free (x ∷ xs) ≡ find free xs
  find-no x xs e = cond-false (free x) (Some x) (find free xs) e

  pub find-some : (xs : List ℕ) → IfSome (find free xs) (λ v. Contains xs v × (free v ≡ true))
  find-some [] = tt
  find-some (x ∷ xs) = elim (cases_Bool (free x)) [
    | inl passes ↦ subst (λ o. IfSome o (λ v. Contains (x ∷ xs) v × (free v ≡ true))) (sym (find-yes x xs passes)) (Contains-here x xs, passes)
    | inr fails ↦ subst (λ o. IfSome o (λ v. Contains (x ∷ xs) v × (free v ≡ true))) (sym (find-no x xs fails)) (weaker (find free xs) (find-some xs))
  ] where
    weaker : (o : Option ℕ) → IfSome o (λ v. Contains xs v × (free v ≡ true)) → IfSome o (λ v. Contains (x ∷ xs) v × (free v ≡ true))
    weaker None h = tt
    weaker (Some v) h = (Contains-there x xs v h.0, h.1)

  pub find-none : (xs : List ℕ) → find free xs ≡ None → (v : ℕ) → Contains xs v → free v ≡ false
  find-none [] e v h = absurd (omega (arith, h.1))
  find-none (x ∷ xs) e v h = elim (cases_Bool (free x)) [
    | inl passes ↦ absurd (some_none x (sym (find-yes x xs passes) ∙ e))
    | inr fails ↦ elim (Contains-cases x xs v h) [
      | inl here ↦ subst (λ z. free z ≡ false) here fails
      | inr rest ↦ find-none xs (sym (find-no x xs fails) ∙ e) v rest
    ]
  ] where
    some_none : (y : ℕ) → Some y ≡ None → ⊥
    some_none y e = cc

pub first-variable : (q : Queue) → IsQueue q → IfSome (first_free q) (λ v. IsVariable (length q.taken) v × (is_taken q v ≡ false))
first-variable q is = weaker (first_free q) (find-some (λ v. not (is_taken q v)) q.order) where
  weaker : (o : Option ℕ) → IfSome o (λ v. Contains q.order v × (not (is_taken q v) ≡ true)) → IfSome o (λ v. IsVariable (length q.taken) v × (is_taken q v ≡ false))
  weaker None h = tt
  weaker (Some v) h = (is.within v h.0, not-true (is_taken q v) h.1)

pub all-taken : (q : Queue) → IsQueue q → first_free q ≡ None → (v : ℕ) → IsVariable (length q.taken) v → is_taken q v ≡ true
all-taken q is e v h = not-false (is_taken q v) (find-none (λ u. not (is_taken q u)) q.order e v (is.all v h))

-- the first queue: the variables in ascending order
from-one : (a n v : ℕ) → Contains (range_with_len a n) v → (a ≤ v) × (v < a + n)
from-one a n v (k, below, is) =
    let e : length (range_with_len a n) ≡ n = length-range_with_len a n in
    let small : k < n = omega (arith, below, e) in
    let at : a + k ≡ v = sym (get_or-range_with_len a n k v small) ∙ is in
    (omega (arith, at), omega (arith, at, small))

pub AllBelow-range : (a n low : ℕ) → low < a → AllByRecursion (λ y. y ≢ low) (range_with_len a n)
AllBelow-range a zero low h = tt
AllBelow-range a (suc n) low h = ((λ (e : a ≡ low). omega (arith, h, e)), AllBelow-range (a + 1) n low (omega (arith, h)))

pub AreDistinct-range : (a n : ℕ) → AreDistinct (range_with_len a n)
AreDistinct-range a zero = tt
AreDistinct-range a (suc n) = (AllBelow-range (a + 1) n a (omega arith), AreDistinct-range (a + 1) n)

pub IsQueue-first : (vars : ℕ) (taken : List Bool) → length taken ≡ vars → IsQueue (record { order = range_with_len 1 vars; taken = taken })
IsQueue-first vars taken e =
    record {
      within = λ v h. let b = from-one 1 vars v h in (b.0, omega (arith, b.1, e));
      all = λ v h. (
        v - 1,
        omega (arith, length-range_with_len 1 vars, h.0, h.1, e),
        let small : v - 1 < vars = omega (arith, h.0, h.1, e) in
            get_or-range_with_len 1 vars (v - 1) v small ∙ omega (arith, h.0),
      );
      once = AreDistinct-range 1 vars;
    }

pub range-more : (a n : ℕ) → range_with_len a (n + 1) ≡ range_with_len a n ++ (a + n) ∷ []
range-more a zero = ap (λ k. k ∷ []) (omega arith)
range-more a (suc n) =
    let more : suc n + 1 ≡ suc (suc n) = omega arith in
    let one : suc n ≡ n + 1 = omega arith in
    let last : a + 1 + n ≡ a + suc n = omega arith in
    ap (range_with_len a) more
    ∙ ap (λ zs. a ∷ zs) (ap (range_with_len (a + 1)) one ∙ (range-more (a + 1) n ∙ ap (λ k. range_with_len (a + 1) n ++ k ∷ []) last))
