-- A write to one of the lists of entries.
use Rattle.std.proofs.Common.{◌≡◌, ◌≢◌, ℕ, ◌+◌, ◌-◌, ◌<◌, true, List, [], ◌∷◌, ◌++◌, length, get_or, set, map, slice_get, Some, Vec, Global, sym, ◌∙◌, ap, subst, inl, inr, arith, length-set}
use Rattle.std.specs.Prelude.{Contains}
use Rattle.std.proofs.lemmas.Bool.{cases_eq, cases_lt}
use Rattle.std.proofs.lemmas.Option.{slice_get-get_or, slice_get_within, get_or_from_slice_get}
use Rattle.std.proofs.lemmas.List.{length-map, map-set, get_or-map, get_or-set_same, get_or-set_other, get_or_past, get_or_append_left, get_or_push, length_push}
use Rattle.bx_cnf.specs.Literals.{Literal}
use Rattle.bx_watch.specs.declared.lists.Entry.{Entry}
use Rattle.bx_watch.specs.Lists.{place, list_of, Pushes, Drops, Clears}

abbrev pub items_of : Vec Entry Global → List Entry
items_of v = v.items

abbrev pub lists_of : List (Vec Entry Global) → List (List Entry)
lists_of vs = map items_of vs

-- a list before a write
pub list-was : (vs : List (Vec Entry Global)) (p : ℕ) (old : Vec Entry Global) (l : Literal) → place l ≡ p → p < length vs → old ≡ get_or vs p old → old.items ≡ list_of (lists_of vs) l
list-was vs p old l same below is = ap items_of is ∙ (sym (get_or-map items_of vs p old [] below) ∙ ap (λ n. get_or (lists_of vs) n []) (sym same))

list-is : (vs : List (Vec Entry Global)) (p : ℕ) (new : Vec Entry Global) (l : Literal) → place l ≡ p → p < length vs → list_of (set (lists_of vs) p new.items) l ≡ new.items
list-is vs p new l same below = ap (λ n. get_or (set (lists_of vs) p new.items) n []) same ∙ get_or-set_same (lists_of vs) p new.items [] (omega (arith, below, length-map vs items_of))

pub Pushes-set : (vs : List (Vec Entry Global)) (p : ℕ) (old new : Vec Entry Global) (l : Literal) (e : Entry) → place l ≡ p → p < length vs → old ≡ get_or vs p old → new.items ≡ old.items ++ e ∷ []
    → Pushes (lists_of vs) (lists_of (set vs p new)) l e
Pushes-set vs p old new l e same below is pushed = subst (λ (ls : List (List Entry)). Pushes (lists_of vs) ls l e) (sym (map-set items_of vs p new)) (record {
  sized = length-set (lists_of vs) p new.items;
  here = list-is vs p new l same below ∙ (pushed ∙ ap (λ (es : List Entry). es ++ e ∷ []) (list-was vs p old l same below is));
  others = λ m apart. get_or-set_other (lists_of vs) p (place m) new.items [] (λ h. apart (h ∙ sym same));
})

pub Clears-set : (vs : List (Vec Entry Global)) (p : ℕ) (new : Vec Entry Global) (l : Literal) → place l ≡ p → p < length vs → new.items ≡ [] → Clears (lists_of vs) (lists_of (set vs p new)) l
Clears-set vs p new l same below none = subst (λ (ls : List (List Entry)). Clears (lists_of vs) ls l) (sym (map-set items_of vs p new)) (record {
  sized = length-set (lists_of vs) p new.items;
  here = list-is vs p new l same below ∙ none;
  others = λ m apart. get_or-set_other (lists_of vs) p (place m) new.items [] (λ h. apart (h ∙ sym same));
})

-- what a `swap_remove` leaves
pub record IsSwapped (old new : List Entry) (at : ℕ) : Type 0 where
  pub within : at < length old
  pub shorter : length new + 1 ≡ length old
  pub last : (d : Entry) → at + 1 < length old → get_or new at d ≡ get_or old (length old - 1) d
  pub rest : (k : ℕ) (d : Entry) → k ≢ at → k + 1 < length old → get_or new k d ≡ get_or old k d

before-of : (old new : List Entry) (at : ℕ) → IsSwapped old new at → (i : ℕ) → i < at → slice_get new i ≡ slice_get old i
before-of old new at s i less =
    let d : Entry = get_or old i (record { clause = 0; blocker = record { var = 1; positive = true } }) in
    slice_get-get_or new i d (omega (arith, less, s.within, s.shorter))
    ∙ (ap (λ (e : Entry). Some e) (s.rest i d (omega (arith, less)) (omega (arith, less, s.within))) ∙ sym (slice_get-get_or old i d (omega (arith, less, s.within))))

kept-of : (old new : List Entry) (at : ℕ) → IsSwapped old new at → (i : ℕ) (e : Entry) → i ≢ at → slice_get old i ≡ Some e → Contains new e
kept-of old new at s i e apart stands =
    let within : i < length old = slice_get_within old i e stands in
    let is : get_or old i e ≡ e = get_or_from_slice_get old i e e stands in
    elim (cases_lt (i + 1) (length old)) [
      | inl inner ↦ (i, omega (arith, inner, s.shorter), s.rest i e apart inner ∙ is)
      | inr end ↦
          let more : at + 1 < length old = omega (arith, s.within, within, apart, end) in
          let here : length old - 1 ≡ i = omega (arith, within, end) in
          (at, omega (arith, more, s.shorter), s.last e more ∙ (ap (λ n. get_or old n e) here ∙ is))
    ]

none_new-of : (old new : List Entry) (at : ℕ) → IsSwapped old new at → (e : Entry) → Contains new e → Contains old e
none_new-of old new at s e (k, below, is) = elim (cases_eq k at) [
  | inl here ↦ (length old - 1, omega (arith, s.within), sym (s.last e (omega (arith, below, here, s.shorter))) ∙ (ap (λ n. get_or new n e) (sym here) ∙ is))
  | inr apart ↦ (k, omega (arith, below, s.shorter), sym (s.rest k e apart (omega (arith, below, s.shorter))) ∙ is)
]

drops-lists : (old new : List (List Entry)) (l : Literal) (at : ℕ) → length new ≡ length old → IsSwapped (list_of old l) (list_of new l) at → ((m : Literal) → place m ≢ place l → list_of new m ≡ list_of old m) → Drops old new l at
drops-lists old new l at sized s others = record {
  sized = sized;
  shorter = s.shorter;
  before = before-of (list_of old l) (list_of new l) at s;
  kept = kept-of (list_of old l) (list_of new l) at s;
  none_new = none_new-of (list_of old l) (list_of new l) at s;
  others = others;
}

pub Drops-set : (vs : List (Vec Entry Global)) (p : ℕ) (old new : Vec Entry Global) (l : Literal) (at : ℕ) → place l ≡ p → p < length vs → old ≡ get_or vs p old → IsSwapped old.items new.items at
    → Drops (lists_of vs) (lists_of (set vs p new)) l at
Drops-set vs p old new l at same below is s = subst (λ (ls : List (List Entry)). Drops (lists_of vs) ls l at) (sym (map-set items_of vs p new))
    (drops-lists (lists_of vs) (set (lists_of vs) p new.items) l at (length-set (lists_of vs) p new.items)
    (subst (λ (es : List Entry). IsSwapped (list_of (lists_of vs) l) es at) (sym (list-is vs p new l same below)) (subst (λ (es : List Entry). IsSwapped es new.items at) (list-was vs p old l same below is) s))
    (λ m apart. get_or-set_other (lists_of vs) p (place m) new.items [] (λ h. apart (h ∙ sym same))))

-- lists that are all empty, and one more
pub empties-push : (xs : List (List Entry)) → ((k : ℕ) → get_or xs k [] ≡ []) → (k : ℕ) → get_or (xs ++ [] ∷ []) k [] ≡ []
empties-push xs none k = elim (cases_lt k (length xs)) [
  | inl below ↦ get_or_append_left xs ([] ∷ []) [] k below ∙ none k
  | inr past ↦ elim (cases_eq (length xs) k) [
    | inl here ↦ get_or_push xs [] [] k here
    | inr apart ↦ get_or_past (xs ++ [] ∷ []) k [] (omega (arith, past, apart, length_push xs []))
  ]
]
