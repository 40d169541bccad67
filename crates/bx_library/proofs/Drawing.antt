-- The dots of forms: what each step of reading them shows.
use Rattle.std.proofs.Common.{Vec, Global, ◌≡◌, ℕ, ◌+◌, ◌<◌, ◌≤◌, ◌⊎◌, inl, inr, Bool, true, false, List, [], ◌∷◌, ◌++◌, length, get_or, Option, Some, option_and_then, unwrap_or, Result, Ok, Err, Ordering, Less, Equal, Greater, is_eq, refl, sym, ap, ◌∙◌, subst, arith}
use Rattle.std.proofs.lemmas.Bool.{cases_lt}
use Rattle.std.proofs.lemmas.List.{get_or_past, get_or_append_left, length-map, map-append}
use Rattle.std.proofs.lemmas.List.Elements.{All-contains, All-nil, Contains-get_or}
use Rattle.std.proofs.lemmas.Result.{IfErr-weaker, on_ok_weaker}
use Rattle.std.proofs.Math.Seq.{get_or-append_seam}
use Rattle.std.specs.Cmp.Lexicographic.{slice_cmp}
use Rattle.std.specs.Ordering.{ordering_then}
use Rattle.std.specs.Prelude.{◌≢◌, ◌↔◌, All, IfOk, IfErr, OnOk, IsNone, IsSomeAnd}
use Rattle.serde_json.specs.Data.{Data}
use Rattle.bx_forms.specs.Forms.{form_count}
use Rattle.bx_library.specs.declared.dot.Dot.{Dot}
use Rattle.bx_library.specs.declared.fault.Field.TheVariants.{Of}
use Rattle.bx_library.specs.declared.fault.LibraryFault.{LibraryFault}
use Rattle.bx_library.specs.declared.fault.LibraryFault.TheVariants.{Shape, NoDots, TooManyDots, DotOutside, SameDot, NoMemory}
use Rattle.bx_library.specs.Dots.{IsAscending, HaveSameDots, dot_cmp}
use Rattle.bx_library.specs.Drawn.{IsDrawn, AreDrawn, AreFine, lists_of}
use Rattle.bx_library.specs.Faults.{IsFree, Where, AtLeast, IsOutsideAt, IsRepeatAt, HasBadDots, HasBadForm}
use Rattle.bx_library.specs.Tiles.{IsInside}
use Rattle.bx_library.specs.Values.{dots_of, form_value, listed_dots}
use Rattle.bx_library.proofs.Checks.{none_outside}
use Rattle.bx_library.proofs.DotOrder.{equal_from_cmp, dot_cmp_itself}
use Rattle.bx_library.proofs.Pairs.{no_value}
use Rattle.bx_library.proofs.Stages.{free_both, free_where, free_least}

-- ---- the dots of one form

-- what sorting dots promises
abbrev pub Sorts : List Dot → Result (Vec Dot Global) LibraryFault → Type 0
Sorts dots r = IfOk r (λ s. IsAscending s.items) × IfOk r (λ s. HaveSameDots dots s.items) × IfOk r (λ s. length s.items ≡ length dots)

pub drawn_from_sorted : (w h : ℕ) (dots D : List Dot) (r : Result (Vec Dot Global) LibraryFault) → dots ≡ D → All (IsInside w h) dots → length D ≤ 1024 → Sorts dots r → IfOk r (λ s. IsDrawn w h D s.items)
drawn_from_sorted w h dots D (Err e) same inside few sorts = tt
drawn_from_sorted w h dots D (Ok s) same inside few sorts = record {
  same = subst (λ l. HaveSameDots l s.items) same sorts.1;
  ascending = sorts.0;
  inside = λ k d below. All-contains (IsInside w h) dots (get_or s.items k d) inside ((sorts.1 (get_or s.items k d)).1 (Contains-get_or s.items k d below));
  few = let count : length s.items ≡ length D = sorts.2 ∙ ap length same in omega arith;
}

empty_never : (D : List Dot) → 0 < length D → D ≡ [] → ⊥
empty_never D some e = let none : length D ≡ 0 = ap length e in omega arith

repeats : (dots D : List Dot) → dots ≡ D → ((k : ℕ) → IsRepeatAt dots k → ⊥) → (k : ℕ) → IsRepeatAt D k → ⊥
repeats dots D same none = subst (λ l. (k : ℕ) → IsRepeatAt l k → ⊥) same none

pub fine_from_sorted : (w h form : ℕ) (dots D : List Dot) (r : Result (Vec Dot Global) LibraryFault) → dots ≡ D → All (IsInside w h) dots → 0 < length D → length D ≤ 1024
    → OnOk r ((k : ℕ) → IsRepeatAt dots k → ⊥) → OnOk r (IsFree (HasBadDots w h form D))
fine_from_sorted w h form dots D r same inside some few = on_ok_weaker r (λ none.
    free_both (Where (D ≡ []) (NoDots form)) _ (free_where (D ≡ []) (NoDots form) (empty_never D some))
    (free_both (Where (1024 < length D) (TooManyDots form)) _ (free_where (1024 < length D) (TooManyDots form) (λ more. omega arith))
    (free_both (AtLeast (IsOutsideAt w h D) (DotOutside form)) _ (free_least (IsOutsideAt w h D) (DotOutside form) (none_outside w h D (subst (All (IsInside w h)) same inside)))
    (free_least (IsRepeatAt D) (SameDot form) (repeats dots D same none)))))

pub bad_from_sorted : (w h form : ℕ) (dots D : List Dot) (r : Result (Vec Dot Global) LibraryFault) → dots ≡ D → All (IsInside w h) dots → 0 < length D → length D ≤ 1024
    → IfErr r (λ fault. fault ≢ NoMemory → AtLeast (IsRepeatAt dots) (SameDot form) fault) → IfErr r (λ fault. fault ≢ NoMemory → HasBadDots w h form D fault)
bad_from_sorted w h form dots D r same inside some few =
    IfErr-weaker r (λ fault. fault ≢ NoMemory → AtLeast (IsRepeatAt dots) (SameDot form) fault) (λ fault. fault ≢ NoMemory → HasBadDots w h form D fault) (λ fault bad other.
    inr (
      free_where (D ≡ []) (NoDots form) (empty_never D some),
      inr (
        free_where (1024 < length D) (TooManyDots form) (λ more. omega arith),
        inr (
          free_least (IsOutsideAt w h D) (DotOutside form) (none_outside w h D (subst (All (IsInside w h)) same inside)),
          subst (λ l. AtLeast (IsRepeatAt l) (SameDot form) fault) same (bad other),
        ),
      ),
    ))

-- ---- what stands under the name of a form

listed_never : (value : Data) (D : List Dot) → dots_of value ≡ Some D → IsNone (dots_of value) → ⊥
listed_never value D e none = let gone : IsNone (Some D) = subst IsNone e none in cc

pub fine_value : (w h form : ℕ) (value : Data) (D : List Dot) → dots_of value ≡ Some D → IsFree (HasBadDots w h form D) → IsFree (HasBadForm w h form (Some value))
fine_value w h form value D e free =
    free_both (Where (IsNone (dots_of value)) (Shape (Of form))) (λ fault. IsSomeAnd (dots_of value) (λ dots. HasBadDots w h form dots fault))
    (free_where (IsNone (dots_of value)) (Shape (Of form)) (listed_never value D e))
    (subst (λ (l : Option (List Dot)). IsFree (λ fault. IsSomeAnd l (λ dots. HasBadDots w h form dots fault))) (sym e) free)

pub bad_value : (w h form : ℕ) (value : Data) (D : List Dot) → dots_of value ≡ Some D → (fault : LibraryFault) → HasBadDots w h form D fault → HasBadForm w h form (Some value) fault
bad_value w h form value D e fault bad =
    inr (
      free_where (IsNone (dots_of value)) (Shape (Of form)) (listed_never value D e),
      subst (λ (l : Option (List Dot)). IsSomeAnd l (λ dots. HasBadDots w h form dots fault)) (sym e) bad,
    )

-- ---- all forms

lists_push : (vs : List (Vec Dot Global)) (v : Vec Dot Global) → lists_of (vs ++ v ∷ []) ≡ lists_of vs ++ v.items ∷ []
lists_push vs v = rw map-append refl

-- what holds of the lists so far and of one more
pub lists_more : (P : ℕ → List Dot → Type 0) (vs : List (Vec Dot Global)) (v : Vec Dot Global) (n : ℕ) → length vs ≡ n → ((f : ℕ) → f < n → P f (get_or (lists_of vs) f [])) → P n v.items
    → (f : ℕ) → f < n + 1 → P f (get_or (lists_of (vs ++ v ∷ [])) f [])
lists_more P vs v n count so_far here f below =
    let lists : length (lists_of vs) ≡ n = length-map vs (λ (x : Vec Dot Global). x.items) ∙ count in
    elim (cases_lt f n) [
      | inl before ↦
          let within : f < length (lists_of vs) = omega arith in
          rw (lists_push vs v, get_or_append_left (lists_of vs) (v.items ∷ []) [] f within) (so_far f before)
      | inr past ↦
          let at : f ≡ length (lists_of vs) = omega arith in
          let last : f ≡ n = omega arith in
          subst (λ l. P f l) (sym (ap (λ l. get_or l f []) (lists_push vs v) ∙ ap (λ i. get_or (lists_of vs ++ v.items ∷ []) i []) at ∙ get_or-append_seam (lists_of vs) v.items [] []))
          (subst (λ i. P i v.items) (sym last) here)
    ]

pub not_drawn : (w h : ℕ) → IsDrawn w h [] []
not_drawn w h = record {
  same = λ dot. ((λ x. x), (λ x. x));
  ascending = λ i j d less below. absurd (omega arith);
  inside = All-nil (IsInside w h);
  few = omega arith;
}

pub drawn_all : (w h : ℕ) (forms : Data) (vs : List (Vec Dot Global)) (n : ℕ) → length vs ≡ n → form_count ≤ n
    → ((f : ℕ) → f < n → IsDrawn w h (listed_dots forms f) (get_or (lists_of vs) f [])) → AreDrawn w h forms (lists_of vs)
drawn_all w h forms vs n count all so_far = λ f. elim (cases_lt f n) [
  | inl before ↦ so_far f before
  | inr past ↦
      let gone : listed_dots forms f ≡ [] = ap (λ (o : Option Data). unwrap_or (option_and_then dots_of o) []) (no_value forms f (omega arith)) in
      let beyond : length (lists_of vs) ≤ f = rw (length-map vs (λ (x : Vec Dot Global). x.items)) (omega arith) in
      rw (gone, get_or_past (lists_of vs) f [] beyond) (not_drawn w h)
]

pub fine_all : (w h : ℕ) (forms : Data) (n : ℕ) → form_count ≤ n → ((f : ℕ) → f < n → IsFree (HasBadForm w h f (form_value forms f))) → AreFine w h forms
fine_all w h forms n all so_far = λ f. elim (cases_lt f n) [
  | inl before ↦ so_far f before
  | inr past ↦ rw (no_value forms f (omega arith)) (λ fault bad. bad)
]

-- ---- lists that compare equal

both_equal : (o p : Ordering) → ordering_then o p ≡ Equal → (o ≡ Equal) × (p ≡ Equal)
both_equal Less p e = absurd (cc)
both_equal Equal p e = (refl, e)
both_equal Greater p e = absurd (cc)

one_list : (xs ys : List Dot) → slice_cmp dot_cmp xs ys ≡ Equal → xs ≡ ys
one_list [] [] e = refl
one_list [] (y ∷ ys) e = absurd (cc)
one_list (x ∷ xs) [] e = absurd (cc)
one_list (x ∷ xs) (y ∷ ys) e =
    let (first, rest) = both_equal (dot_cmp x y) (slice_cmp dot_cmp xs ys) e in
    ap (λ z. z ∷ xs) (equal_from_cmp x y first) ∙ ap (λ zs. y ∷ zs) (one_list xs ys rest)

tied : (xs : List Dot) → slice_cmp dot_cmp xs xs ≡ Equal
tied [] = refl
tied (x ∷ xs) = rw (dot_cmp_itself x) (tied xs)

is_eq_true : (o : Ordering) → is_eq o ≡ true → o ≡ Equal
is_eq_true Less e = absurd (cc)
is_eq_true Equal e = refl
is_eq_true Greater e = absurd (cc)

pub cmp_tells : (xs ys : List Dot) (o : Ordering) (b : Bool) → o ≡ slice_cmp dot_cmp xs ys → b ≡ is_eq o → (b ≡ true) ↔ (xs ≡ ys)
cmp_tells xs ys o b e test = (
  (λ h. one_list xs ys (sym e ∙ is_eq_true o (sym test ∙ h))),
  (λ same. test ∙ ap is_eq (e ∙ ap (λ zs. slice_cmp dot_cmp xs zs) (sym same) ∙ tied xs)),
)

-- ---- the forms that are offered

pub told_more : (lists : List (List Dot)) (n form : ℕ) (ds : List Dot) (Old New : ℕ → Type 0) → form ≡ n → get_or lists n [] ≡ ds → ((f : ℕ) → Old f ↔ ((f < n) × (0 < length (get_or lists f []))))
    → ((f : ℕ) → New f ↔ (Old f ⊎ ((f ≡ form) × (0 < length ds)))) → (f : ℕ) → New f ↔ ((f < n + 1) × (0 < length (get_or lists f [])))
told_more lists n form ds Old New same at told added = λ f. (
  (λ h. elim ((added f).0 h) [
    | inl old ↦ let (below, some) = (told f).0 old in (omega arith, some)
    | inr new ↦ (omega (arith, new.0, same), subst (λ (l : List Dot). 0 < length l) (sym (ap (λ i. get_or lists i []) (new.0 ∙ same) ∙ at)) new.1)
  ]),
  (λ (below, some). elim (cases_lt f n) [
    | inl before ↦ (added f).1 (inl ((told f).1 (before, some)))
    | inr past ↦ let here : f ≡ n = omega arith in (added f).1 (inr (here ∙ sym same, subst (λ (l : List Dot). 0 < length l) (ap (λ i. get_or lists i []) here ∙ at) some))
  ]),
)

pub told_all : (lists : List (List Dot)) (n : ℕ) (Set : ℕ → Type 0) → length lists ≤ n → ((f : ℕ) → Set f ↔ ((f < n) × (0 < length (get_or lists f [])))) → (f : ℕ) → Set f ↔ (0 < length (get_or lists f []))
told_all lists n Set past told = λ f. (
  (λ h. ((told f).0 h).1),
  (λ some. elim (cases_lt f n) [
    | inl before ↦ (told f).1 (before, some)
    | inr beyond ↦
        let none : get_or lists f [] ≡ [] = get_or_past lists f [] (omega arith) in
        let empty : length (get_or lists f []) ≡ 0 = ap length none in
        absurd (omega arith)
  ]),
)

-- at a number of no form all forms have been seen
pub all_seen : (n : ℕ) → (n < form_count → false ≡ true) → form_count ≤ n
all_seen n none = elim (cases_lt n form_count) [
  | inl form ↦ let never : false ≡ true = none form in absurd (cc)
  | inr past ↦ past
]
