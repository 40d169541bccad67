-- How many literals of a clause aren't false, one literal after the other.
use Rattle.std.proofs.Common.{◌≡◌, ℕ, zero, suc, ◌+◌, ◌<◌, ◌≤◌, List, [], ◌∷◌, length, get_or, take, Some, refl, sym, ◌∙◌, ap, subst, inl, inr, arith}
use Rattle.std.proofs.lemmas.List.{take_all}
use Rattle.std.proofs.lemmas.List.Elements.{All-more}
use Rattle.std.proofs.lemmas.Bool.{cases_eq}
use Rattle.std.proofs.lemmas.Option.{slice_get_within, get_or_from_slice_get, slice_get_read}
use Rattle.std.specs.Prelude.{◌≢◌, slice_get, All}
use Rattle.bx_cnf.specs.Literals.{Literal}
use Rattle.bx_cnf.specs.Assignments.{IsFalse, IsClauseFalse, LeavesOne}

pub get_take : {X : Type 0} (xs : List X) (i k : ℕ) → k < i → slice_get (take i xs) k ≡ slice_get xs k
get_take xs zero k lt = absurd (omega arith)
get_take [] (suc i) k lt = refl
get_take (x ∷ xs) (suc i) zero lt = refl
get_take (x ∷ xs) (suc i) (suc k) lt = get_take xs i k (omega arith)

pub get_take_within : {X : Type 0} (xs : List X) (i k : ℕ) (x : X) → slice_get (take i xs) k ≡ Some x → k < i
get_take_within xs zero k x is = let never : ⊥ = cc in absurd never
get_take_within [] (suc i) k x is = let never : ⊥ = cc in absurd never
get_take_within (y ∷ xs) (suc i) zero x is = omega arith
get_take_within (y ∷ xs) (suc i) (suc k) x is = let rest = get_take_within xs i k x is in omega (arith, rest)

pub one_item : {X : Type 0} (xs : List X) (k : ℕ) (x y : X) → slice_get xs k ≡ Some x → slice_get xs k ≡ Some y → x ≡ y
one_item xs k x y a b = let e : Some x ≡ Some y = sym a ∙ b in cc

-- what holds of all items holds of the one at a place
pub holds_at : {X : Type 0} (P : X → Type 0) (xs : List X) (k : ℕ) (x : X) → All P xs → slice_get xs k ≡ Some x → P x
holds_at P xs k x all is = subst P (get_or_from_slice_get xs k x x is) (all k x (slice_get_within xs k x is))

stands : (c : List Literal) (i : ℕ) (x : Literal) → i < length c → x ≡ get_or c i x → slice_get c i ≡ Some x
stands c i x within is = slice_get_read c (length c) i x refl within is

pub false_more : (trues c : List Literal) (i : ℕ) (x : Literal) → i < length c → x ≡ get_or c i x → IsClauseFalse trues (take i c) → IsFalse trues x → IsClauseFalse trues (take (i + 1) c)
false_more trues c i x within is all h = All-more (IsFalse trues) c i x within all (subst (IsFalse trues) is h)

pub one_first : (trues c : List Literal) (i : ℕ) (x : Literal) → i < length c → x ≡ get_or c i x → IsClauseFalse trues (take i c) → (IsFalse trues x → ⊥) → LeavesOne trues (take (i + 1) c) x
one_first trues c i x within is all h = record {
  place = i;
  stands = get_take c (i + 1) i (omega arith) ∙ stands c i x within is;
  this = h;
  others = λ k m at ne.
      let lt : k < i + 1 = get_take_within c (i + 1) k m at in
      let below : k < i = by_ne k lt ne in
      holds_at (IsFalse trues) (take i c) k m all (get_take c i k below ∙ sym (get_take c (i + 1) k lt) ∙ at);
} where
  by_ne : (k : ℕ) → k < i + 1 → k ≢ i → k < i
  by_ne k lt ne = omega arith

pub one_more : (trues c : List Literal) (i : ℕ) (x l : Literal) → i < length c → x ≡ get_or c i x → LeavesOne trues (take i c) l → IsFalse trues x → LeavesOne trues (take (i + 1) c) l
one_more trues c i x l within is one h = record {
  place = one.place;
  stands = get_take c (i + 1) one.place (omega (arith, here)) ∙ sym (get_take c i one.place here) ∙ one.stands;
  this = one.this;
  others = λ k m at ne.
      let lt : k < i + 1 = get_take_within c (i + 1) k m at in
      let read : slice_get c k ≡ Some m = sym (get_take c (i + 1) k lt) ∙ at in
      elim (cases_eq k i) [
        | inl same ↦ subst (IsFalse trues) (one_item c k x m (ap (slice_get c) same ∙ stands c i x within is) read) h
        | inr other ↦ let below : k < i = by_ne k lt other in one.others k m (get_take c i k below ∙ read) ne
      ];
} where
  here : one.place < i
  here = get_take_within c i one.place l one.stands

  by_ne : (k : ℕ) → k < i + 1 → k ≢ i → k < i
  by_ne k lt ne = omega arith

pub more_left : (trues c : List Literal) (i : ℕ) (x l : Literal) → i < length c → x ≡ get_or c i x → LeavesOne trues (take i c) l → (IsFalse trues x → ⊥) → (IsClauseFalse trues c → ⊥) × ((n : Literal) → LeavesOne trues c n → ⊥)
more_left trues c i x l within is one h = (all_false, another) where
  here : one.place < i
  here = get_take_within c i one.place l one.stands

  all_false : IsClauseFalse trues c → ⊥
  all_false all = h (holds_at (IsFalse trues) c i x all (stands c i x within is))

  another : (n : Literal) → LeavesOne trues c n → ⊥
  another n other =
      elim (cases_eq i other.place) [
        | inl same ↦ one.this (other.others one.place l (sym (get_take c i one.place here) ∙ one.stands) (λ e. omega (arith, here, e, same)))
        | inr ne ↦ h (other.others i x (stands c i x within is) ne)
      ]

-- a clause that leaves one literal isn't false, and leaves no other
pub not_false : (trues c : List Literal) (l : Literal) → LeavesOne trues c l → IsClauseFalse trues c → ⊥
not_false trues c l one all = one.this (holds_at (IsFalse trues) c one.place l all one.stands)

pub one_left : (trues c : List Literal) (l m : Literal) → LeavesOne trues c l → LeavesOne trues c m → l ≡ m
one_left trues c l m a b =
    elim (cases_eq a.place b.place) [
      | inl same ↦ one_item c a.place l m a.stands (ap (slice_get c) same ∙ b.stands)
      | inr ne ↦ absurd (a.this (b.others a.place l a.stands ne))
    ]

pub false_all : (trues c : List Literal) (i : ℕ) → length c ≤ i → IsClauseFalse trues (take i c) → IsClauseFalse trues c
false_all trues c i le all = subst (IsClauseFalse trues) (take_all i c le) all

pub one_all : (trues c : List Literal) (i : ℕ) (l : Literal) → length c ≤ i → LeavesOne trues (take i c) l → LeavesOne trues c l
one_all trues c i l le one = subst (λ d. LeavesOne trues d l) (take_all i c le) one
