-- Texts by first appearance: the same ones, each once, and one is found at its place.
use Rattle.std.proofs.Common.{◌≡◌, ◌||◌, ◌++◌, append-nil, map, refl, false, cond, ◌≢◌, ℕ, ◌+◌, Bool, true, false, not, zero, suc, List, [], ◌∷◌, sym, subst, ap, ◌∙◌, inl, inr, Some, arith}
use Rattle.std.specs.Prelude.{slice_get}
use Rattle.std.specs.Str.{bytes_eq}
use Rattle.std.specs.List.{Contains, filter, list_any, position_or_len}
use Rattle.std.proofs.lemmas.Bool.{cases_Bool, cond_both, false_from_ne_true, or_left, true≢false, not-true, not_from_true, not_from_false, cond-true, cond-false}
use Rattle.std.proofs.lemmas.List.Elements.{All-from_recursion, recursion_from_All, All-contains, All-weaker, filter_passes, filter-append}
use Rattle.std.proofs.lemmas.List.{map_push}
use Rattle.std.proofs.lemmas.Option.{slice_get_within, get_or_from_slice_get}
use Rattle.std.proofs.lemmas.Slice.Eq.{bytes_eq-Decides}
use Rattle.bx_logic.specs.Lists.{AreDistinct}
use Rattle.bx_verilog.specs.Formulas.{Text}
use Rattle.bx_verilog.specs.Mentions.{firsts}
use Rattle.bx_verilog.proofs.Membership.{Contains-nil, Contains-here, Contains-there, Contains-cases, Contains-filter, Contains-from_filter, AreDistinct-filter}

pub same_texts : (a b : Text) → bytes_eq a b ≡ true → a ≡ b
same_texts a b = (bytes_eq-Decides a b).0

pub same_bytes : (a b : Text) → a ≡ b → bytes_eq a b ≡ true
same_bytes a b = (bytes_eq-Decides a b).1

pub other_texts : (a b : Text) → bytes_eq a b ≡ false → a ≢ b
other_texts a b e same = true≢false (sym (same_bytes a b same) ∙ e)

abbrev is_other : Text → Text → Bool
is_other n other = not (bytes_eq n other)

pub contains-firsts : (ns : List Text) (n : Text) → Contains ns n → Contains (firsts ns) n
contains-firsts [] n h = h
contains-firsts (m ∷ ns) n h = elim (cases_Bool (bytes_eq m n)) [
  | inl same ↦ subst (λ (x : Text). Contains (firsts (m ∷ ns)) x) (same_texts m n same) (Contains-here m (filter (is_other m) (firsts ns)))
  | inr other ↦ elim (Contains-cases m ns n h) [
    | inl same ↦ absurd (other_texts m n other same)
    | inr rest ↦ Contains-there m (filter (is_other m) (firsts ns)) n
        (Contains-filter (is_other m) (firsts ns) n (contains-firsts ns n rest) (not_from_false (bytes_eq m n) other))
  ]
]

pub firsts-contains : (ns : List Text) (n : Text) → Contains (firsts ns) n → Contains ns n
firsts-contains [] n h = h
firsts-contains (m ∷ ns) n h = elim (Contains-cases m (filter (is_other m) (firsts ns)) n h) [
  | inl same ↦ subst (λ (x : Text). Contains (m ∷ ns) x) same (Contains-here m ns)
  | inr rest ↦ Contains-there m ns n (firsts-contains ns n (Contains-from_filter (is_other m) (firsts ns) n rest))
]

none-again : (m : Text) (ns : List Text) (n : Text) → is_other m n ≡ true → n ≢ m
none-again m ns n e same = other_texts m n (not-true (bytes_eq m n) e) (sym same)

pub firsts-distinct : (ns : List Text) → AreDistinct (firsts ns)
firsts-distinct [] = tt
firsts-distinct (m ∷ ns) = (
  recursion_from_All (λ n. n ≢ m) (filter (is_other m) (firsts ns))
      (All-weaker (λ n. is_other m n ≡ true) (λ n. n ≢ m) (none-again m ns) (filter (is_other m) (firsts ns)) (filter_passes (is_other m) (firsts ns))),
  AreDistinct-filter (is_other m) (firsts ns) (firsts-distinct ns),
)

pub Contains-slice_get : {X : Type 0} (xs : List X) (k : ℕ) (x : X) → slice_get xs k ≡ Some x → Contains xs x
Contains-slice_get xs k x e = (k, slice_get_within xs k x e, get_or_from_slice_get xs k x x e)

place-here : (m : Text) (ns : List Text) (n : Text) → bytes_eq n m ≡ true → position_or_len (bytes_eq n) (m ∷ ns) ≡ 0
place-here m ns n e = cond-false (is_other n m) (1 + position_or_len (bytes_eq n) ns) 0 (not_from_true (bytes_eq n m) e)

place-there : (m : Text) (ns : List Text) (n : Text) → bytes_eq n m ≡ false → position_or_len (bytes_eq n) (m ∷ ns) ≡ suc (position_or_len (bytes_eq n) ns)
place-there m ns n e =
    let found = cond-true (is_other n m) (1 + position_or_len (bytes_eq n) ns) 0 (not_from_false (bytes_eq n m) e) in
    omega (arith, found)

-- a text of the list stands at its place
pub text-at : (ns : List Text) (n : Text) → Contains ns n → slice_get ns (position_or_len (bytes_eq n) ns) ≡ Some n
text-at [] n h = absurd (Contains-nil n h)
text-at (m ∷ ns) n h = elim (cases_Bool (bytes_eq n m)) [
  | inl same ↦ ap (slice_get (m ∷ ns)) (place-here m ns n same) ∙ ap Some (sym (same_texts n m same))
  | inr other ↦ elim (Contains-cases m ns n h) [
    | inl same ↦ absurd (other_texts n m other (sym same))
    | inr rest ↦ ap (slice_get (m ∷ ns)) (place-there m ns n other) ∙ text-at ns n rest
  ]
]

-- where each stands once, a text that stands at k has this place
pub place-of : (ns : List Text) (k : ℕ) (n : Text) → AreDistinct ns → slice_get ns k ≡ Some n → position_or_len (bytes_eq n) ns ≡ k
place-of [] k n h e = cc
place-of (m ∷ ns) zero n h e = place-here m ns n (same_bytes n m (cc))
place-of (m ∷ ns) (suc k) n h e = elim (cases_Bool (bytes_eq n m)) [
  | inl same ↦ absurd (All-contains (λ x. x ≢ m) ns n (All-from_recursion (λ x. x ≢ m) ns h.0) (Contains-slice_get ns k n e) (same_texts n m same))
  | inr other ↦ place-there m ns n other ∙ ap suc (place-of ns k n h.1 e)
]

-- a filter keeps what a test finds, where what passes the test passes the filter
any-filtered : (p q : Text → Bool) → ((x : Text) → q x ≡ true → p x ≡ true) → (xs : List Text) → list_any q (filter p xs) ≡ list_any q xs
any-filtered p q h [] = refl
any-filtered p q h (x ∷ xs) = elim (cases_Bool (p x)) [
  | inl pass ↦ ap (list_any q) (cond-true (p x) (x ∷ filter p xs) (filter p xs) pass) ∙ ap (λ b. q x || b) (any-filtered p q h xs)
  | inr fail ↦
      let none : q x ≡ false = false_from_ne_true (q x) (λ e. true≢false (sym (h x e) ∙ fail)) in
      ap (list_any q) (cond-false (p x) (x ∷ filter p xs) (filter p xs) fail) ∙ any-filtered p q h xs ∙ ap (λ b. b || list_any q xs) (sym none)
]

filter-push_yes : (p : Text → Bool) (xs : List Text) (x : Text) → p x ≡ true → filter p (xs ++ x ∷ []) ≡ filter p xs ++ x ∷ []
filter-push_yes p xs x e = filter-append p xs (x ∷ []) ∙ ap (λ ys. filter p xs ++ ys) (cond-true (p x) (x ∷ []) [] e)

filter-push_no : (p : Text → Bool) (xs : List Text) (x : Text) → p x ≡ false → filter p (xs ++ x ∷ []) ≡ filter p xs
filter-push_no p xs x e = filter-append p xs (x ∷ []) ∙ ap (λ ys. filter p xs ++ ys) (cond-false (p x) (x ∷ []) [] e) ∙ append-nil (filter p xs)

-- the list where a text goes last, unless it is there
abbrev pub with_text : List Text → Text → List Text
with_text ns n = cond (list_any (bytes_eq n) ns) ns (ns ++ n ∷ [])

with_text-known : (ns : List Text) (n : Text) → list_any (bytes_eq n) ns ≡ true → with_text ns n ≡ ns
with_text-known ns n e = cond-true (list_any (bytes_eq n) ns) ns (ns ++ n ∷ []) e

with_text-new : (ns : List Text) (n : Text) → list_any (bytes_eq n) ns ≡ false → with_text ns n ≡ ns ++ n ∷ []
with_text-new ns n e = cond-false (list_any (bytes_eq n) ns) ns (ns ++ n ∷ []) e

first-known : (m : Text) (ns : List Text) (n : Text) → bytes_eq m n ≡ true → m ∷ filter (is_other m) (with_text ns n) ≡ with_text (m ∷ filter (is_other m) ns) n
first-known m ns n e =
    let drops = filter-push_no (is_other m) ns n (not_from_true (bytes_eq m n) e) in
    let keeps = cond_both (list_any (bytes_eq n) ns) ns (ns ++ n ∷ []) (λ xs. filter (is_other m) xs ≡ filter (is_other m) ns) (λ h. refl) (λ h. drops) in
    ap (λ xs. m ∷ xs) keeps ∙ sym (with_text-known (m ∷ filter (is_other m) ns) n
    (or_left (bytes_eq n m) (list_any (bytes_eq n) (filter (is_other m) ns)) (same_bytes n m (sym (same_texts m n e)))))

first-new : (m : Text) (ns : List Text) (n : Text) → bytes_eq m n ≡ false → m ∷ filter (is_other m) (with_text ns n) ≡ with_text (m ∷ filter (is_other m) ns) n
first-new m ns n e =
    let other : bytes_eq n m ≡ false = false_from_ne_true (bytes_eq n m) (λ h. other_texts m n e (sym (same_texts n m h))) in
    let found : list_any (bytes_eq n) (m ∷ filter (is_other m) ns) ≡ list_any (bytes_eq n) ns =
    ap (λ b. b || list_any (bytes_eq n) (filter (is_other m) ns)) other
    ∙ any-filtered (is_other m) (bytes_eq n) (λ x h. subst (λ y. is_other m y ≡ true) (same_texts n x h) (not_from_false (bytes_eq m n) e)) ns in
    elim (cases_Bool (list_any (bytes_eq n) ns)) [
      | inl known ↦ ap (λ xs. m ∷ filter (is_other m) xs) (with_text-known ns n known) ∙ sym (with_text-known (m ∷ filter (is_other m) ns) n (found ∙ known))
      | inr new ↦ ap (λ xs. m ∷ filter (is_other m) xs) (with_text-new ns n new)
          ∙ ap (λ xs. m ∷ xs) (filter-push_yes (is_other m) ns n (not_from_false (bytes_eq m n) e))
          ∙ sym (with_text-new (m ∷ filter (is_other m) ns) n (found ∙ new))
    ]

pub firsts-push : (ns : List Text) (n : Text) → firsts (ns ++ n ∷ []) ≡ with_text (firsts ns) n
firsts-push [] n = refl
firsts-push (m ∷ ns) n = ap (λ xs. m ∷ filter (is_other m) xs) (firsts-push ns n) ∙ elim (cases_Bool (bytes_eq m n)) [
  | inl same ↦ first-known m (firsts ns) n same
  | inr other ↦ first-new m (firsts ns) n other
]

found-shown : {X : Type 0} (f : X → Text) (p : Text → Bool) (xs : List X) → list_any p (map f xs) ≡ list_any (λ x. p (f x)) xs
found-shown f p [] = refl
found-shown f p (x ∷ xs) = ap (λ b. p (f x) || b) (found-shown f p xs)

-- the same of things that have a text, where one is there if another has its text
pub with_text-shown : {X : Type 0} (f : X → Text) (xs : List X) (x : X) → map f (cond (list_any (λ y. bytes_eq (f x) (f y)) xs) xs (xs ++ x ∷ [])) ≡ with_text (map f xs) (f x)
with_text-shown f xs x =
    let found = found-shown f (bytes_eq (f x)) xs in
    elim (cases_Bool (list_any (λ y. bytes_eq (f x) (f y)) xs)) [
      | inl known ↦ ap (map f) (cond-true (list_any (λ y. bytes_eq (f x) (f y)) xs) xs (xs ++ x ∷ []) known) ∙ sym (with_text-known (map f xs) (f x) (found ∙ known))
      | inr new ↦ ap (map f) (cond-false (list_any (λ y. bytes_eq (f x) (f y)) xs) xs (xs ++ x ∷ []) new) ∙ map_push f xs x ∙ sym (with_text-new (map f xs) (f x) (found ∙ new))
    ]
