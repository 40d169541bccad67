-- The keys of a map that are names of forms, and the least that is not.
use Rattle.std.proofs.Common.{◌≡◌, ℕ, List, [], ◌∷◌, ◌++◌, ◌⊎◌, inl, inr, Option, Some, None, String, Global, true, Ordering, Less, Equal, Greater, string_bytes, string_cmp, nat_cmp, refl, sym, ap, ◌∙◌}
use Rattle.std.proofs.lemmas.Cmp.{nat_list_cmp_total, tied_itself}
use Rattle.std.proofs.lemmas.Map.Lookups.{exact_bytes}
use Rattle.std.specs.Cmp.Lexicographic.{slice_cmp}
use Rattle.std.specs.Prelude.{IsSome, IfSome, is_some, ◌≢◌}
use Rattle.std.specs.List.{AllByRecursion}
use Rattle.std.specs.List.Sorted.{IsStrictlySortedBy}
use Rattle.std.specs.Map.{keys_of}
use Rattle.std.specs.Ordering.{match_ordering, ordering_reverse}
use Rattle.serde_json.specs.Data.{Data, object}
use Rattle.serde_json.specs.Find.{get_member}
use Rattle.serde_json.specs.View.{view, members_view}
use Rattle.serde_json.specs.declared.value.Value.{Value}
use Rattle.bx_forms.specs.Forms.{form_name}
use Rattle.bx_library.specs.Faults.{IsUnknown, IsLeastUnknown}

abbrev pub Key : Type 0
Key = String Global

abbrev pub Entry : Type 0
Entry = Key × Value

abbrev pub IsFormName : List ℕ → Type 0
IsFormName name = (form : ℕ) × (form_name form ≡ Some name)

abbrev pub IsKnown : Key → Type 0
IsKnown key = IsFormName (string_bytes key)

-- the name is one of the keys
abbrev pub Among : List ℕ → List Key → Type 0
Among name [] = ⊥
Among name (k ∷ ks) = (name ≡ string_bytes k) ⊎ Among name ks

found_at : (o : Ordering) (name : List ℕ) (k : Key) (ks : List Key) (here later : Option Data) → slice_cmp nat_cmp name (string_bytes k) ≡ o → (IsSome later → Among name ks)
    → IsSome (match_ordering o later here later) → (name ≡ string_bytes k) ⊎ Among name ks
found_at Less name k ks here later is back some = inr (back some)
found_at Equal name k ks here later is back some = inl (exact_bytes name (string_bytes k) is)
found_at Greater name k ks here later is back some = inr (back some)

pub found_among : (es : List Entry) (name : List ℕ) → IsSome (get_member name (members_view es)) → Among name (keys_of es)
found_among [] name some = absurd (cc)
found_among (e ∷ es) name some = found_at (slice_cmp nat_cmp name (string_bytes e.0)) name e.0 (keys_of es) (Some (view e.1)) (get_member name (members_view es)) refl (found_among es name) some

pub same_text : (xs : List ℕ) → slice_cmp nat_cmp xs xs ≡ Equal
same_text xs = tied_itself nat_list_cmp_total xs

pub later_found : (o : Ordering) (d : Data) (later : Option Data) → IsSome later → IsSome (match_ordering o later (Some d) later)
later_found Less d later some = some
later_found Equal d later some = refl
later_found Greater d later some = some

pub among_found : (es : List Entry) (name : List ℕ) → Among name (keys_of es) → IsSome (get_member name (members_view es))
among_found [] name among = absurd among
among_found (e ∷ es) name among = elim among [
  | inl same ↦ rw (same, same_text (string_bytes e.0)) refl
  | inr later ↦ later_found (slice_cmp nat_cmp name (string_bytes e.0)) (view e.1) (get_member name (members_view es)) (among_found es name later)
]

pub among_middle : (done : List Key) (k : Key) (rest : List Key) → Among (string_bytes k) (done ++ k ∷ rest)
among_middle [] k rest = inl refl
among_middle (d ∷ done) k rest = inr (among_middle done k rest)

pub not_less : (o : Ordering) → o ≡ Equal → o ≢ Less
not_less o e = λ less. let no : Equal ≡ Less = sym e ∙ less in cc

among_above : (k : Key) (rest : List Key) → AllByRecursion (λ y. string_cmp k y ≡ Less) rest → (other : List ℕ) → Among other rest → slice_cmp nat_cmp (string_bytes k) other ≡ Less
among_above k [] h other among = absurd among
among_above k (r ∷ rest) h other among = elim among [
  | inl same ↦ rw same h.0
  | inr later ↦ among_above k rest h.1 other later
]

pub least_key : (done : List Key) (k : Key) (rest : List Key) → IsStrictlySortedBy string_cmp (done ++ k ∷ rest) → AllByRecursion IsKnown done
    → (other : List ℕ) → (IsFormName other → ⊥) → Among other (done ++ k ∷ rest) → slice_cmp nat_cmp other (string_bytes k) ≢ Less
unfolding IsStrictlySortedBy
least_key [] k rest sorted known other unknown among = elim among [
  | inl same ↦ not_less _ (rw same (same_text (string_bytes k)))
  | inr later ↦ λ less.
      let above = among_above k rest sorted.0 other later in
      let turned : slice_cmp nat_cmp (string_bytes k) other ≡ Greater = nat_list_cmp_total.antisymm (string_bytes k) other ∙ ap ordering_reverse less in
      let no : Less ≡ Greater = sym above ∙ turned in
      cc
]
least_key (d ∷ done) k rest sorted known other unknown among = elim among [
  | inl same ↦ absurd (unknown (rw same known.0))
  | inr later ↦ least_key done k rest sorted.1 known.1 other unknown later
]

pub all_known : (ks : List Key) → AllByRecursion IsKnown ks → (other : List ℕ) → Among other ks → IsFormName other
all_known [] known other among = absurd among
all_known (k ∷ ks) known other among = elim among [
  | inl same ↦ rw same known.0
  | inr later ↦ all_known ks known.1 other later
]

-- in a map whose keys are known up to this one, and which isn't, it is the least unknown name
pub least_unknown : (es : List Entry) (done : List Key) (k : Key) (rest : List Key) → IsStrictlySortedBy string_cmp (keys_of es) → keys_of es ≡ done ++ k ∷ rest
    → AllByRecursion IsKnown done → ((form : ℕ) → form_name form ≡ Some (string_bytes k) → ⊥) → IsLeastUnknown (object (members_view es)) (string_bytes k)
least_unknown es done k rest sorted is known none = record {
  unknown = record {
    stands = among_found es (string_bytes k) (rw is (among_middle done k rest));
    none = none;
  };
  least = λ other unknown. least_key done k rest (rw is at sorted) known other (λ (form, e). unknown.none form e) (rw is at (found_among es other unknown.stands));
}

pub none_unknown : (es : List Entry) → AllByRecursion IsKnown (keys_of es) → (name : List ℕ) → IsUnknown (object (members_view es)) name → ⊥
none_unknown es known name unknown =
    let (form, e) = all_known (keys_of es) known name (found_among es name unknown.stands) in
    unknown.none form e

pub named : (o : Option ℕ) (text : List ℕ) → is_some o ≡ true → IfSome o (λ form. form_name form ≡ Some text) → IsFormName text
named None text h some = absurd (cc)
named (Some form) text h some = (form, some)
