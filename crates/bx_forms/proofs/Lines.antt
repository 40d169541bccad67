-- What is read of the table at a number within it, and behind its end.
use Rattle.std.proofs.Common.{◌≡◌, ℕ, zero, suc, ◌+◌, ◌<◌, ◌≤◌, ◌↔◌, nat_lt, ltb-true, Bool, true, false, List, [], ◌∷◌, ◌++◌, length, map, get_or, replicate, Some, None, inl, inr, refl, ap, ◌∙◌, subst, arith}
use Rattle.std.specs.List.{slice_get, list_all, range_with_len}
use Rattle.std.proofs.lemmas.Bool.{cases_lt, cases_eq, and_parts}
use Rattle.bx_forms.specs.Forms.{form_count, IsForm, forms, form_name, shape_of}
use Rattle.bx_forms.specs.declared.table.Shape.{Shape}
use Rattle.bx_forms.specs.declared.table.TheConstants.{FORMS}

pub get_or-map : {X Y : Type 0} (f : X → Y) (xs : List X) (i : ℕ) (d : X) → f (get_or xs i d) ≡ get_or (map f xs) i (f d)
get_or-map f [] i d = refl
get_or-map f (x ∷ xs) zero d = refl
get_or-map f (x ∷ xs) (suc i) d = get_or-map f xs i d

pub get_or-slice_get : {X : Type 0} (xs : List X) (i : ℕ) (d : X) → i < length xs → Some (get_or xs i d) ≡ slice_get xs i
get_or-slice_get [] i d h = absurd (omega arith)
get_or-slice_get (x ∷ xs) zero d h = refl
get_or-slice_get (x ∷ xs) (suc i) d h = get_or-slice_get xs i d (omega arith)

pub get_or-replicate : {X : Type 0} (n i : ℕ) (x : X) → get_or (replicate n x) i x ≡ x
get_or-replicate zero i x = refl
get_or-replicate (suc n) zero x = refl
get_or-replicate (suc n) (suc i) x = get_or-replicate n i x

-- of so many that are true, those within and no others
pub get_or-true : (n i : ℕ) → (get_or (replicate n true) i false ≡ true) ↔ (i < n)
get_or-true zero i = (λ e. absurd (cc), λ h. absurd (omega arith))
get_or-true (suc n) zero = (λ e. omega arith, λ h. refl)
get_or-true (suc n) (suc i) = let more = get_or-true n i in (λ e. let h = more.0 e in omega arith, λ h. more.1 (omega arith))

pub slice_get-past : {X : Type 0} (xs : List X) (i : ℕ) → length xs ≤ i → slice_get xs i ≡ None
slice_get-past [] i h = refl
slice_get-past (x ∷ xs) zero h = absurd (omega arith)
slice_get-past (x ∷ xs) (suc i) h = slice_get-past xs i (omega arith)

-- a form that has a name, or of which the table says something, stands in the table
pub named-within : (form : ℕ) (name : List ℕ) → form_name form ≡ Some name → IsForm form
named-within form name h =
    elim (cases_lt form form_count) [
      | inl low ↦ low
      | inr past ↦ let none : form_name form ≡ None = slice_get-past (map (λ line. line.0.now) FORMS) form past in absurd (cc)
    ]

pub shaped-within : (form : ℕ) (shape : Shape) → shape_of form ≡ Some shape → IsForm form
shaped-within form shape h =
    elim (cases_lt form form_count) [
      | inl low ↦ low
      | inr past ↦ let none : shape_of form ≡ None = slice_get-past (map (λ line. line.1) FORMS) form past in absurd (cc)
    ]

-- what holds of so many numbers from the first on
abbrev pub AllFrom : (ℕ → Type 0) → ℕ → ℕ → Type 0
AllFrom P first zero = Unit {0}
AllFrom P first (suc n) = P first × AllFrom P (first + 1) n

pub from-all : (P : ℕ → Type 0) (first n : ℕ) → AllFrom P first n → (k : ℕ) → first ≤ k → k < first + n → P k
from-all P first zero all k low high = absurd (omega arith)
from-all P first (suc n) all k low high =
    elim (cases_lt first k) [
      | inl above ↦ from-all P (first + 1) n all.1 k (omega arith) (omega arith)
      | inr below ↦ let same : first ≡ k = omega arith in subst P same all.0
    ]

-- what holds of all forms
abbrev pub AllForms : (ℕ → Type 0) → Type 0
AllForms P = AllFrom P 0 form_count

pub at-form : (P : ℕ → Type 0) → AllForms P → (form : ℕ) → IsForm form → P form
at-form P all form inside = from-all P 0 form_count all form (omega arith) inside

-- what a test says of all numbers of a range holds of each
pub tested-at : (test : ℕ → Bool) (n a t : ℕ) → list_all test (range_with_len a n) ≡ true → a ≤ t → t < a + n → test t ≡ true
tested-at test zero a t e low high = absurd (omega arith)
tested-at test (suc n) a t e low high =
    let both = and_parts (test a) (list_all test (range_with_len (a + 1) n)) e in
    elim (cases_eq t a) [
      | inl same ↦ ap test same ∙ both.0
      | inr other ↦ tested-at test n (a + 1) t both.1 (omega arith) (omega arith)
    ]

pub form-tested : (test : ℕ → Bool) → list_all test forms ≡ true → (form : ℕ) → IsForm form → test form ≡ true
form-tested test all form inside = tested-at test form_count 0 form all (omega arith) inside

pub range-more : (n a j : ℕ) → a + n ≡ j → range_with_len a (suc n) ≡ range_with_len a n ++ j ∷ []
range-more zero a j e = ap (λ x. x ∷ []) (omega arith)
range-more (suc n) a j e = ap (λ xs. a ∷ xs) (range-more n (a + 1) j (omega arith))

-- a number that is within by computation
pub is-form : (form : ℕ) → nat_lt form form_count ≡ true → IsForm form
is-form form within = ltb-true form form_count within
