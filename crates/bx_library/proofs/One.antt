-- A value has one first fault at most, and bytes give one thing.
use Rattle.std.proofs.Common.{◌≡◌, ℕ, ◌<◌, inl, inr, List, [], length, Option, Some, None, Result, Ok, Err, Ordering, Less, Equal, Greater, nat_cmp, refl, sym, ap, ◌∙◌, subst}
use Rattle.std.proofs.lemmas.Bool.{cases_order}
use Rattle.std.proofs.lemmas.Cmp.{nat_list_cmp_total}
use Rattle.std.proofs.lemmas.List.{ext_get_or}
use Rattle.std.proofs.lemmas.Map.Lookups.{exact_bytes}
use Rattle.std.specs.Cmp.Lexicographic.{slice_cmp}
use Rattle.std.specs.Ordering.{ordering_reverse}
use Rattle.std.specs.Prelude.{◌≢◌, IfOk, IfErr, IsSomeAnd, IsNone}
use Rattle.serde_json.specs.Data.{Data}
use Rattle.bx_library.specs.declared.dot.Dot.{Dot}
use Rattle.bx_library.specs.declared.fault.Field.TheVariants.{Name, Width, Height, Forms, Of}
use Rattle.bx_library.specs.declared.fault.LibraryFault.{LibraryFault}
use Rattle.bx_library.specs.declared.fault.LibraryFault.TheVariants.{Shape, BadSize, UnknownForm, NoDots, TooManyDots, DotOutside, SameDot, SameDots, NoMemory}
use Rattle.bx_library.specs.Faults.{Where, IsLeast, AtLeast, HasBadShape, HasBadSize, HasUnknownForm, IsOutsideAt, IsRepeatAt, HasBadDots, HasBadForm, HasBadForms, HasSameDots, IsFirstFault}
use Rattle.bx_library.specs.Readings.{IsLibraryOf, Gives, Reads}
use Rattle.bx_library.specs.Tiles.{Tiles, IsWidth, IsHeight, form_dots}
use Rattle.bx_library.specs.Values.{Holds, name_of, width_of, height_of, forms_of, width, height, forms, dots_of, form_value}
use Rattle.bx_library.proofs.DotSets.{one_ascending}
use Rattle.bx_library.proofs.Stages.{IsOne, one_both}

one_where : (P : Type 0) (named : LibraryFault) → IsOne (Where P named)
one_where P named = λ a b x y. x.is ∙ sym y.is

least_one : (P : ℕ → Type 0) (j k : ℕ) → IsLeast P j → IsLeast P k → j ≡ k
least_one P j k a b = elim (cases_order j k) [
  | inl same ↦ same
  | inr other ↦ elim other [
    | inl below ↦ absurd (b.none_before j below a.holds)
    | inr above ↦ absurd (a.none_before k above b.holds)
  ]
]

one_at_least : (P : ℕ → Type 0) (named : ℕ → LibraryFault) → IsOne (AtLeast P named)
one_at_least P named = λ a b x y. x.is ∙ ap named (least_one P x.number y.number x.least y.least) ∙ sym y.is

one_shape : (value : Data) → IsOne (HasBadShape value)
one_shape value =
    one_both (Where (IsNone (name_of value)) (Shape Name)) _ (one_where (IsNone (name_of value)) (Shape Name))
    (one_both (Where (IsNone (width_of value)) (Shape Width)) _ (one_where (IsNone (width_of value)) (Shape Width))
    (one_both (Where (IsNone (height_of value)) (Shape Height)) _ (one_where (IsNone (height_of value)) (Shape Height))
    (one_where (IsNone (forms_of value)) (Shape Forms))))

one_size : (w h : ℕ) → IsOne (HasBadSize w h)
one_size w h = one_both (Where (IsWidth w → ⊥) (BadSize Width)) _ (one_where (IsWidth w → ⊥) (BadSize Width)) (one_where (IsHeight h → ⊥) (BadSize Height))

same_by_order : (o : Ordering) (a b : List ℕ) → slice_cmp nat_cmp a b ≡ o → slice_cmp nat_cmp a b ≢ Less → slice_cmp nat_cmp b a ≢ Less → a ≡ b
same_by_order Less a b e never other = absurd (never e)
same_by_order Equal a b e never other = exact_bytes a b e
same_by_order Greater a b e never other = absurd (other (nat_list_cmp_total.antisymm b a ∙ ap ordering_reverse e))

one_unknown : (forms : Data) → IsOne (HasUnknownForm forms)
one_unknown forms = λ a b x y.
    x.is ∙ ap UnknownForm (same_by_order (slice_cmp nat_cmp x.name y.name) x.name y.name refl (y.least.least x.name x.least.unknown) (x.least.least y.name y.least.unknown)) ∙ sym y.is

one_dots : (w h form : ℕ) (dots : List Dot) → IsOne (HasBadDots w h form dots)
one_dots w h form dots =
    one_both (Where (dots ≡ []) (NoDots form)) _ (one_where (dots ≡ []) (NoDots form))
    (one_both (Where (1024 < length dots) (TooManyDots form)) _ (one_where (1024 < length dots) (TooManyDots form))
    (one_both (AtLeast (IsOutsideAt w h dots) (DotOutside form)) _ (one_at_least (IsOutsideAt w h dots) (DotOutside form))
    (one_at_least (IsRepeatAt dots) (SameDot form))))

one_list : (w h form : ℕ) (l : Option (List Dot)) → IsOne (λ fault. IsSomeAnd l (λ dots. HasBadDots w h form dots fault))
one_list w h form None = λ a b x y. absurd x
one_list w h form (Some dots) = one_dots w h form dots

one_form : (w h form : ℕ) (o : Option Data) → IsOne (HasBadForm w h form o)
one_form w h form None = λ a b x y. absurd x
one_form w h form (Some value) =
    one_both (Where (IsNone (dots_of value)) (Shape (Of form))) _ (one_where (IsNone (dots_of value)) (Shape (Of form))) (one_list w h form (dots_of value))

one_of_forms : (w h : ℕ) (forms : Data) → IsOne (HasBadForms w h forms)
one_of_forms w h forms = λ a b x y. elim (cases_order x.form y.form) [
  | inl same ↦ one_form w h x.form (form_value forms x.form) a b x.bad (subst (λ f. HasBadForm w h f (form_value forms f) b) (sym same) y.bad)
  | inr other ↦ elim other [
    | inl below ↦ absurd (y.none_before x.form below a x.bad)
    | inr above ↦ absurd (x.none_before y.form above b y.bad)
  ]
]

one_alike : (forms : Data) → IsOne (HasSameDots forms)
one_alike forms = λ a b x y. elim (cases_order x.f y.f) [
  | inl same ↦ elim (cases_order x.g y.g) [
    | inl also ↦ x.is ∙ ap (λ f. SameDots f x.g) same ∙ ap (SameDots y.f) also ∙ sym y.is
    | inr other ↦ elim other [
      | inl below ↦ absurd (y.least_g x.g below (rw (← same) x.alike))
      | inr above ↦ absurd (x.least_g y.g above (rw same y.alike))
    ]
  ]
  | inr other ↦ elim other [
    | inl below ↦ absurd (y.least_f x.f x.g below x.alike)
    | inr above ↦ absurd (x.least_f y.f y.g above y.alike)
  ]
]

one_first_fault : (value : Data) → IsOne (IsFirstFault value)
one_first_fault value =
    one_both (HasBadShape value) _ (one_shape value)
    (one_both (HasBadSize (width value) (height value)) _ (one_size (width value) (height value))
    (one_both (HasUnknownForm (forms value)) _ (one_unknown (forms value))
    (one_both (HasBadForms (width value) (height value) (forms value)) _ (one_of_forms (width value) (height value) (forms value))
    (one_alike (forms value)))))

same_tiles : (a b : Tiles) → a.width ≡ b.width → a.height ≡ b.height → a.dots ≡ b.dots → a ≡ b
same_tiles a b w h d =
    let tiles : ℕ → ℕ → List (List Dot) → Tiles = λ x y z. record { width = x; height = y; dots = z } in
    ap (λ x. tiles x a.height a.dots) w ∙ ap (λ x. tiles b.width x a.dots) h ∙ ap (tiles b.width b.height) d

one_library : (value : Data) (a b : Tiles) → IsLibraryOf value a → IsLibraryOf value b → a ≡ b
one_library value a b x y =
    same_tiles a b (x.width ∙ sym y.width) (x.height ∙ sym y.height)
    (ext_get_or [] a.dots b.dots (x.count ∙ sym y.count) (λ form below.
    one_ascending (form_dots a form) (form_dots b form) (x.ascending form) (y.ascending form)
    (λ dot. ((λ h. (y.same form dot).0 ((x.same form dot).1 h)), (λ h. (x.same form dot).0 ((y.same form dot).1 h))))))

one_gift : (value : Data) (r s : Result Tiles LibraryFault) → Gives value r → Gives value s → r ≡ s
one_gift value (Ok a) (Ok b) x y = ap Ok (one_library value a b x y)
one_gift value (Ok a) (Err f) x y = absurd (x.free f y)
one_gift value (Err f) (Ok b) x y = absurd (y.free f x)
one_gift value (Err f) (Err g) x y = ap Err (one_first_fault value f g x y)

one_value : (bytes : List ℕ) (v w : Data) → Holds bytes v → Holds bytes w → v ≡ w
one_value bytes v w a b = let e : Some v ≡ Some w = sym a.reads ∙ b.reads in cc

pub one_reading : (bytes : List ℕ) (r s : Result Tiles LibraryFault) → Reads bytes r → Reads bytes s → r ≡ s
one_reading bytes r s x y = elim x [
  | inl never ↦ elim y [ inl also ↦ never.1 ∙ sym also.1 | inr held ↦ absurd (never.0 held.0 held.1) ]
  | inr held ↦ elim y [
    | inl never ↦ absurd (never.0 held.0 held.1)
    | inr also ↦ one_gift held.0 r s held.2 (subst (λ v. Gives v s) (one_value bytes also.0 held.0 also.1 held.1) also.2)
  ]
]

-- what is answered is what bytes give, unless memory runs out
pub exact : (bytes : List ℕ) (result r : Result Tiles LibraryFault) → IfOk result (λ tiles. Reads bytes (Ok tiles)) → IfErr result (λ fault. fault ≢ NoMemory → Reads bytes (Err fault))
    → Reads bytes r → result ≢ Err NoMemory → result ≡ r
exact bytes (Ok tiles) r found faults reads memory = one_reading bytes (Ok tiles) r found reads
exact bytes (Err fault) r found faults reads memory = one_reading bytes (Err fault) r (faults (λ e. memory (ap Err e))) reads
