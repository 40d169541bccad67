-- What is wrong with a JSON value is settled, one sort of fault after the other: so bytes give a library, or they have
-- a first fault.
use Rattle.std.proofs.Common.{◌≡◌, ◌⊎◌, ℕ, ◌<◌, ◌≤◌, ◌%◌, Bool, true, false, List, [], ◌∷◌, length, take, map, Option, Some, None, Result, Ok, Err, Ordering, Less, Equal, Greater, inl, inr, nat_cmp, refl, sym, ap, ◌∙◌, subst, arith}
use Rattle.std.proofs.lemmas.Bool.{cases_lt, cases_eq}
use Rattle.std.proofs.lemmas.Cmp.{nat_list_cmp_total}
use Rattle.std.proofs.lemmas.List.{get_or_past}
use Rattle.std.proofs.lemmas.List.FromFn.{length-map-range_with_len, get_or-map-range_with_len}
use Rattle.std.proofs.lemmas.Map.Lookups.{exact_bytes}
use Rattle.std.proofs.lemmas.Option.{slice_get_within}
use Rattle.std.proofs.lemmas.Str.{IsUtf8-from_is_utf8, is_utf8-from_IsUtf8}
use Rattle.std.specs.Cmp.Lexicographic.{slice_cmp}
use Rattle.std.specs.List.{slice_get, range_with_len}
use Rattle.std.specs.List.Sorted.{IsStrictlySortedBy}
use Rattle.std.specs.Ordering.{match_ordering, ordering_reverse}
use Rattle.std.specs.Prelude.{◌≢◌, Contains, IsSome, IsNone, IsSomeAnd}
use Rattle.std.specs.Str.{is_utf8}
use Rattle.serde_json.specs.Data.{Data, null, boolean, number, string, array, object, Members, no_members, member}
use Rattle.serde_json.specs.Find.{get_member}
use Rattle.serde_json.specs.Read.{read}
use Rattle.bx_forms.specs.Forms.{form_count, form_name}
use Rattle.bx_grid.proofs.Decided.{Decided, both, same, less, at-most, find}
use Rattle.bx_library.specs.declared.dot.Dot.{Dot}
use Rattle.bx_library.specs.declared.fault.Field.TheVariants.{Name, Width, Height, Forms, Of}
use Rattle.bx_library.specs.declared.fault.LibraryFault.{LibraryFault}
use Rattle.bx_library.specs.declared.fault.LibraryFault.TheVariants.{NotJson, Shape, BadSize, UnknownForm, NoDots, TooManyDots, DotOutside, SameDot, SameDots}
use Rattle.bx_library.specs.Dots.{IsAscending, HaveSameDots}
use Rattle.bx_library.specs.Faults.{IsFree, ◌⊳◌, Where, AtLeast, HasBadShape, HasBadSize, IsUnknown, IsLeastUnknown, HasUnknownForm, IsOutsideAt, IsRepeatAt, HasBadDots, HasBadForm, HasBadForms, AreAlike, HasSameDots, IsFirstFault}
use Rattle.bx_library.specs.Groups.{group_of}
use Rattle.bx_library.specs.Readings.{Gives, Reads}
use Rattle.bx_library.specs.Tiles.{Tiles, IsWidth, IsHeight, IsInside, form_dots}
use Rattle.bx_library.specs.Values.{name_of, width_of, height_of, forms_of, width, height, forms, dots_of, form_value, listed_dots}
use Rattle.bx_library.proofs.Deciding.{same-group, contains-decided, same-dots-decided, listed_in_order}
use Rattle.bx_library.proofs.DotSets.{ascending_from_sorted}
use Rattle.bx_library.proofs.Keys.{IsFormName, same_text, later_found, not_less}
use Rattle.bx_library.proofs.Pairs.{no_name, no_value}
use Rattle.bx_library.proofs.Stages.{free_both, free_where, free_least}

-- there is a fault of a sort, or none
abbrev Settled : (LibraryFault → Type 0) → Type 0
Settled Fault = ((fault : LibraryFault) × Fault fault) ⊎ IsFree Fault

settle_both : (S T : LibraryFault → Type 0) → Settled S → Settled T → Settled (S ⊳ T)
settle_both S T (inl (fault, s)) t = inl (fault, inl s)
settle_both S T (inr free) (inl (fault, t)) = inl (fault, inr (free, t))
settle_both S T (inr free) (inr none) = inr (free_both S T free none)

settle_where : (P : Type 0) (named : LibraryFault) → Decided P → Settled (Where P named)
settle_where P named (inl p) = inl (named, record { holds = p; is = refl })
settle_where P named (inr never) = inr (free_where P named never)

-- numbers of a sort that is decided, of which all are below a bound
settle_least : (P : ℕ → Type 0) (named : ℕ → LibraryFault) (bound : ℕ) → ((k : ℕ) → Decided (P k)) → ((k : ℕ) → P k → k < bound) → Settled (AtLeast P named)
settle_least P named bound decided below = elim (find P decided bound) [
  | inl (k, p, before) ↦ inl (named k, record { number = k; least = record { holds = p; none_before = before }; is = refl })
  | inr none ↦ inr (free_least P named (λ k p. none k (below k p) p))
]

opposite-decided : (P : Type 0) → Decided P → Decided (P → ⊥)
opposite-decided P (inl p) = inr (λ never. never p)
opposite-decided P (inr never) = inl never

none-decided : {X : Type 0} (o : Option X) → Decided (IsNone o)
none-decided None = inl refl
none-decided (Some x) = inr (λ e. cc)

some-decided : {X : Type 0} (o : Option X) → Decided (IsSome o)
some-decided None = inr (λ e. cc)
some-decided (Some x) = inl refl

some-and-decided : {X : Type 0} (o : Option X) (P : X → Type 0) → ((x : X) → Decided (P x)) → Decided (IsSomeAnd o P)
some-and-decided None P decided = inr (λ h. h)
some-and-decided (Some x) P decided = decided x

-- ---- the fields

settle_shape : (value : Data) → Settled (HasBadShape value)
settle_shape value =
    settle_both (Where (IsNone (name_of value)) (Shape Name)) _ (settle_where _ _ (none-decided (name_of value)))
    (settle_both (Where (IsNone (width_of value)) (Shape Width)) _ (settle_where _ _ (none-decided (width_of value)))
    (settle_both (Where (IsNone (height_of value)) (Shape Height)) _ (settle_where _ _ (none-decided (height_of value)))
    (settle_where (IsNone (forms_of value)) (Shape Forms) (none-decided (forms_of value)))))

width-decided : (w : ℕ) → Decided (IsWidth w)
width-decided w =
    same ((2 ≤ w) × ((w ≤ 256) × (w % 2 ≡ 0))) (IsWidth w)
    ((λ h. record { least = h.0; most = h.1.0; even = h.1.1 }), (λ h. (h.least, (h.most, h.even))))
    (both _ _ (at-most 2 w) (both _ _ (at-most w 256) (cases_eq (w % 2) 0)))

height-decided : (h : ℕ) → Decided (IsHeight h)
height-decided h =
    same ((1 ≤ h) × (h ≤ 256)) (IsHeight h)
    ((λ p. record { least = p.0; most = p.1 }), (λ p. (p.least, p.most)))
    (both _ _ (at-most 1 h) (at-most h 256))

settle_size : (w h : ℕ) → Settled (HasBadSize w h)
settle_size w h =
    settle_both (Where (IsWidth w → ⊥) (BadSize Width)) _ (settle_where _ _ (opposite-decided (IsWidth w) (width-decided w)))
    (settle_where (IsHeight h → ⊥) (BadSize Height) (opposite-decided (IsHeight h) (height-decided h)))

-- ---- the names of forms

texts-equal : (a b : List ℕ) → Decided (a ≡ b)
texts-equal a b = by (slice_cmp nat_cmp a b) refl
  where
    differ : slice_cmp nat_cmp a b ≢ Equal → a ≡ b → ⊥
    differ never e = never (subst (λ (c : List ℕ). slice_cmp nat_cmp a c ≡ Equal) e (same_text a))

    by : (o : Ordering) → slice_cmp nat_cmp a b ≡ o → Decided (a ≡ b)
    by Less is = inr (differ (λ e. let no : Less ≡ Equal = sym is ∙ e in cc))
    by Equal is = inl (exact_bytes a b is)
    by Greater is = inr (differ (λ e. let no : Greater ≡ Equal = sym is ∙ e in cc))

named-decided : (o : Option (List ℕ)) (name : List ℕ) → Decided (o ≡ Some name)
named-decided None name = inr (λ e. cc)
named-decided (Some text) name = same (text ≡ name) (Some text ≡ Some name) ((λ e. ap Some e), (λ e. cc)) (texts-equal text name)

known-decided : (name : List ℕ) → Decided (IsFormName name)
known-decided name = elim (find (λ form. form_name form ≡ Some name) (λ form. named-decided (form_name form) name) form_count) [
  | inl (form, is, before) ↦ inl (form, is)
  | inr none ↦ inr (λ (form, is). elim (cases_lt form form_count) [
    | inl low ↦ none form low is
    | inr past ↦ (let no : form_name form ≡ None = no_name form past in cc)
  ])
]

-- the members have a name that no form has, and this is the least such, or they have none
abbrev Unknowns : Members → Type 0
Unknowns ms = ((name : List ℕ) × IsLeastUnknown (object ms) name) ⊎ ((name : List ℕ) → IsUnknown (object ms) name → ⊥)

-- a name among members is the first one's, or one among the others
unknown_cases : (l : List ℕ) (e : Data) (ms : Members) (name : List ℕ) → IsUnknown (object (member l e ms)) name → (name ≡ l) ⊎ IsUnknown (object ms) name
unknown_cases l e ms name unknown = by (slice_cmp nat_cmp name l) refl unknown.stands
  where
    rest : IsSome (get_member name ms) → IsUnknown (object ms) name
    rest some = record { stands = some; none = unknown.none }

    by : (o : Ordering) → slice_cmp nat_cmp name l ≡ o → IsSome (match_ordering o (get_member name ms) (Some e) (get_member name ms)) → (name ≡ l) ⊎ IsUnknown (object ms) name
    by Less is some = inr (rest some)
    by Equal is some = inl (exact_bytes name l is)
    by Greater is some = inr (rest some)

unknown_behind : (l : List ℕ) (e : Data) (ms : Members) (name : List ℕ) → IsUnknown (object ms) name → IsUnknown (object (member l e ms)) name
unknown_behind l e ms name unknown = record {
  stands = later_found (slice_cmp nat_cmp name l) e (get_member name ms) unknown.stands;
  none = unknown.none;
}

unknown_here : (l : List ℕ) (e : Data) (ms : Members) → (IsFormName l → ⊥) → IsUnknown (object (member l e ms)) l
unknown_here l e ms never = record { stands = rw (same_text l) refl; none = λ form is. never (form, is) }

-- of a known name and more members, the least unknown name is theirs
past_known : (l : List ℕ) (e : Data) (ms : Members) → IsFormName l → Unknowns ms → Unknowns (member l e ms)
past_known l e ms (form, is) (inl (name, least)) = inl (
  name,
  record {
    unknown = unknown_behind l e ms name least.unknown;
    least = λ other unknown. elim (unknown_cases l e ms other unknown) [
      | inl here ↦ absurd (unknown.none form (is ∙ ap Some (sym here)))
      | inr there ↦ least.least other there
    ];
  },
)
past_known l e ms (form, is) (inr none) = inr (λ name unknown. elim (unknown_cases l e ms name unknown) [
  | inl here ↦ unknown.none form (is ∙ ap Some (sym here))
  | inr there ↦ none name there
])

-- of an unknown name and more members, it is that name, or theirs where that stands before it
past_unknown : (l : List ℕ) (e : Data) (ms : Members) → (IsFormName l → ⊥) → Unknowns ms → Unknowns (member l e ms)
past_unknown l e ms never (inr none) = inl (
  l,
  record {
    unknown = unknown_here l e ms never;
    least = λ other unknown. elim (unknown_cases l e ms other unknown) [
      | inl here ↦ not_less _ (rw here (same_text l))
      | inr there ↦ absurd (none other there)
    ];
  },
)
past_unknown l e ms never (inl (name, least)) = by (slice_cmp nat_cmp name l) refl
  where
    turned : (o : Ordering) → slice_cmp nat_cmp name l ≡ o → slice_cmp nat_cmp l name ≡ ordering_reverse o
    turned o is = nat_list_cmp_total.antisymm l name ∙ ap ordering_reverse is

    first : ((other : List ℕ) → slice_cmp nat_cmp other l ≡ Less → slice_cmp nat_cmp other name ≡ Less) → Unknowns (member l e ms)
    first passes = inl (
      l,
      record {
        unknown = unknown_here l e ms never;
        least = λ other unknown. elim (unknown_cases l e ms other unknown) [
          | inl here ↦ not_less _ (rw here (same_text l))
          | inr there ↦ λ less. least.least other there (passes other less)
        ];
      },
    )

    by : (o : Ordering) → slice_cmp nat_cmp name l ≡ o → Unknowns (member l e ms)
    by Less is = inl (
      name,
      record {
        unknown = unknown_behind l e ms name least.unknown;
        least = λ other unknown. elim (unknown_cases l e ms other unknown) [
          | inl here ↦ λ less. let after : slice_cmp nat_cmp other name ≡ Greater = rw here (turned Less is) in cc
          | inr there ↦ least.least other there
        ];
      },
    )
    by Equal is = first (λ other less. subst (λ (c : List ℕ). slice_cmp nat_cmp other c ≡ Less) (sym (exact_bytes name l is)) less)
    by Greater is = first (λ other less. nat_list_cmp_total.trans other l name less (turned Greater is))

unknowns : (ms : Members) → Unknowns ms
unknowns no_members = inr (λ name unknown. let some = unknown.stands in cc)
unknowns (member l e ms) = elim (known-decided l) [
  | inl known ↦ past_known l e ms known (unknowns ms)
  | inr never ↦ past_unknown l e ms never (unknowns ms)
]

settle_unknown : (forms : Data) → Settled (HasUnknownForm forms)
settle_unknown null = inr (λ fault h. let some = h.least.unknown.stands in cc)
settle_unknown (boolean b) = inr (λ fault h. let some = h.least.unknown.stands in cc)
settle_unknown (number n) = inr (λ fault h. let some = h.least.unknown.stands in cc)
settle_unknown (string s) = inr (λ fault h. let some = h.least.unknown.stands in cc)
settle_unknown (array ds) = inr (λ fault h. let some = h.least.unknown.stands in cc)
settle_unknown (object ms) = elim (unknowns ms) [
  | inl (name, least) ↦ inl (UnknownForm name, record { name = name; least = least; is = refl })
  | inr none ↦ inr (λ fault h. none h.name h.least.unknown)
]

-- ---- the dots of a form

empty-decided : (dots : List Dot) → Decided (dots ≡ [])
empty-decided [] = inl refl
empty-decided (d ∷ ds) = inr (λ e. cc)

some_within : (dots : List Dot) (k : ℕ) (P : Dot → Type 0) → IsSomeAnd (slice_get dots k) P → k < length dots
some_within dots k P some = by (slice_get dots k) refl some
  where
    by : (o : Option Dot) → slice_get dots k ≡ o → IsSomeAnd o P → k < length dots
    by None is some = absurd some
    by (Some dot) is some = slice_get_within dots k dot is

inside-decided : (w h : ℕ) (dot : Dot) → Decided (IsInside w h dot)
inside-decided w h dot =
    same ((dot.n < w) × ((dot.m < h) × (dot.l < 2))) (IsInside w h dot)
    ((λ p. record { n = p.0; m = p.1.0; l = p.1.1 }), (λ p. (p.n, (p.m, p.l))))
    (both _ _ (less dot.n w) (both _ _ (less dot.m h) (less dot.l 2)))

settle_dots : (w h form : ℕ) (dots : List Dot) → Settled (HasBadDots w h form dots)
settle_dots w h form dots =
    settle_both (Where (dots ≡ []) (NoDots form)) _ (settle_where _ _ (empty-decided dots))
    (settle_both (Where (1024 < length dots) (TooManyDots form)) _ (settle_where _ _ (less 1024 (length dots)))
    (settle_both (AtLeast (IsOutsideAt w h dots) (DotOutside form)) _
    (settle_least (IsOutsideAt w h dots) (DotOutside form) (length dots)
    (λ k. some-and-decided (slice_get dots k) (λ dot. IsInside w h dot → ⊥) (λ dot. opposite-decided (IsInside w h dot) (inside-decided w h dot)))
    (λ k. some_within dots k (λ dot. IsInside w h dot → ⊥)))
    (settle_least (IsRepeatAt dots) (SameDot form) (length dots)
    (λ k. some-and-decided (slice_get dots k) (Contains (take k dots)) (contains-decided (take k dots)))
    (λ k. some_within dots k (Contains (take k dots))))))

settle_listed : (w h form : ℕ) (listed : Option (List Dot)) → Settled (λ fault. IsSomeAnd listed (λ dots. HasBadDots w h form dots fault))
settle_listed w h form None = inr (λ fault bad. bad)
settle_listed w h form (Some dots) = settle_dots w h form dots

settle_form : (w h form : ℕ) (o : Option Data) → Settled (HasBadForm w h form o)
settle_form w h form None = inr (λ fault bad. bad)
settle_form w h form (Some value) =
    settle_both (Where (IsNone (dots_of value)) (Shape (Of form))) _ (settle_where _ _ (none-decided (dots_of value))) (settle_listed w h form (dots_of value))

settle_forms : (w h : ℕ) (forms : Data) → Settled (HasBadForms w h forms)
settle_forms w h forms = elim (find Bad (λ form. decided form (settle_form w h form (form_value forms form))) form_count) [
  | inl (form, (fault, bad), before) ↦ inl (fault, record { form = form; bad = bad; none_before = λ other lower fault bad. before other lower (fault, bad) })
  | inr none ↦ inr (λ fault found. elim (cases_lt found.form form_count) [
    | inl low ↦ none found.form low (fault, found.bad)
    | inr past ↦ subst (λ (o : Option Data). HasBadForm w h found.form o fault) (no_value forms found.form past) found.bad
  ])
]
  where
    Bad : ℕ → Type 0
    Bad form = (fault : LibraryFault) × HasBadForm w h form (form_value forms form) fault

    decided : (form : ℕ) → Settled (HasBadForm w h form (form_value forms form)) → Decided (Bad form)
    decided form (inl bad) = inl bad
    decided form (inr free) = inr (λ (fault, bad). free fault bad)

-- ---- forms that can't be told apart

alike-decided : (forms : Data) (f g : ℕ) → Decided (AreAlike forms f g)
alike-decided forms f g =
    same ((f < g) × ((group_of f ≡ group_of g) × (IsSome (form_value forms f) × (IsSome (form_value forms g) × HaveSameDots (listed_dots forms f) (listed_dots forms g))))) (AreAlike forms f g) (
      (λ h. record { order = h.0; group = h.1.0; first = h.1.1.0; second = h.1.1.1.0; same = h.1.1.1.1 }),
      (λ h. (h.order, (h.group, (h.first, (h.second, h.same))))),
    )
    (both _ _ (less f g) (both _ _ (same-group (group_of f) (group_of g))
    (both _ _ (some-decided (form_value forms f)) (both _ _ (some-decided (form_value forms g)) (same-dots-decided (listed_dots forms f) (listed_dots forms g))))))

some_form : (forms : Data) (form : ℕ) → IsSome (form_value forms form) → form < form_count
some_form forms form some = elim (cases_lt form form_count) [
  | inl low ↦ low
  | inr past ↦ (let none = no_value forms form past in let never : ⊥ = cc in absurd never)
]

settle_alike : (forms : Data) → Settled (HasSameDots forms)
settle_alike forms = elim (find Twin twin-decided form_count) [
  | inl (f, (g, alike), before) ↦ least f before (find (AreAlike forms f) (alike-decided forms f) form_count) g alike
  | inr none ↦ inr (λ fault h. none h.f (some_form forms h.f h.alike.first) (h.g, h.alike))
]
  where
    Twin : ℕ → Type 0
    Twin f = (g : ℕ) × AreAlike forms f g

    twin-decided : (f : ℕ) → Decided (Twin f)
    twin-decided f = elim (find (AreAlike forms f) (alike-decided forms f) form_count) [
      | inl (g, alike, before) ↦ inl (g, alike)
      | inr none ↦ inr (λ (g, alike). none g (some_form forms g alike.second) alike)
    ]

    least : (f : ℕ) → ((e : ℕ) → e < f → Twin e → ⊥) → ((k : ℕ) × AreAlike forms f k × ((m : ℕ) → m < k → AreAlike forms f m → ⊥)) ⊎ ((m : ℕ) → m < form_count → AreAlike forms f m → ⊥)
        → (g : ℕ) → AreAlike forms f g → Settled (HasSameDots forms)
    least f before (inl (k, alike, first)) g twin = inl (
      SameDots f k,
      record { f = f; g = k; alike = alike; least_f = λ e j lower h. before e lower (j, h); least_g = first; is = refl },
    )
    least f before (inr none) g twin = absurd (none g (some_form forms g twin.second) twin)

-- ---- all of it

settle_first : (value : Data) → Settled (IsFirstFault value)
settle_first value =
    settle_both (HasBadShape value) _ (settle_shape value)
    (settle_both (HasBadSize (width value) (height value)) _ (settle_size (width value) (height value))
    (settle_both (HasUnknownForm (forms value)) _ (settle_unknown (forms value))
    (settle_both (HasBadForms (width value) (height value) (forms value)) _ (settle_forms (width value) (height value) (forms value))
    (settle_alike (forms value)))))

-- the dots that are listed for each form, in order
module _ (value : Data) where
  drawn : ℕ → List Dot
  drawn form = (listed_in_order (listed_dots (forms value) form)).0

  tiles : Tiles
  tiles = record { width = width value; height = height value; dots = map drawn (range_with_len 0 form_count) }

  abbrev AreThese : ℕ → List Dot → Type 0
  AreThese form dots = HaveSameDots (listed_dots (forms value) form) dots × IsAscending dots

  nothing_past : (form : ℕ) → form_count ≤ form → AreThese form []
  unfolding IsStrictlySortedBy
  nothing_past form past =
      let none : listed_dots (forms value) form ≡ [] = rw (no_value (forms value) form past) refl in
      (subst (λ (dots : List Dot). HaveSameDots dots []) (sym none) (λ dot. ((λ h. h), (λ h. h))), ascending_from_sorted [] tt)

  these : (form : ℕ) → AreThese form (form_dots tiles form)
  unfolding tiles drawn
  these form = elim (cases_lt form form_count) [
    | inl low ↦
        (let own = listed_in_order (listed_dots (forms value) form) in
        subst (AreThese form) (sym (get_or-map-range_with_len drawn 0 form_count form form [] low (omega arith))) (own.1, own.2))
    | inr past ↦
        (let count : length (map drawn (range_with_len 0 form_count)) ≤ form = rw (length-map-range_with_len drawn 0 form_count) past in
        subst (AreThese form) (sym (get_or_past (map drawn (range_with_len 0 form_count)) form [] count)) (nothing_past form past))
  ]

  gift : (result : Result Tiles LibraryFault) × Gives value result
  unfolding tiles drawn
  gift = elim (settle_first value) [
    | inl (fault, first) ↦ (Err fault, first)
    | inr free ↦ (
      Ok tiles,
      record {
        free = free;
        width = refl;
        height = refl;
        count = length-map-range_with_len drawn 0 form_count;
        same = λ form. (these form).0;
        ascending = λ form. (these form).1;
      },
    )
  ]

pub some_reading : (bytes : List ℕ) → (result : Result Tiles LibraryFault) × Reads bytes result
some_reading bytes = by (is_utf8 bytes) refl (read bytes) refl
  where
    by : (text : Bool) → is_utf8 bytes ≡ text → (o : Option Data) → read bytes ≡ o → (result : Result Tiles LibraryFault) × Reads bytes result
    by false text o is = (Err NotJson, inl ((λ value h. let yes : is_utf8 bytes ≡ true = is_utf8-from_IsUtf8 bytes h.text in cc), refl))
    by true text None is = (Err NotJson, inl ((λ value h. let reads : read bytes ≡ Some value = h.reads in cc), refl))
    by true text (Some value) is =
        let (result, gives) = gift value in
        (result, inr (value, record { text = IsUtf8-from_is_utf8 bytes text; reads = is }, gives))
