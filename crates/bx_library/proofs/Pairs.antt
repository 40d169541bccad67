-- Forms that are alike by what is listed, and forms with the same dots.
use Rattle.std.proofs.Common.{Vec, Global, ◌≡◌, ℕ, ◌<◌, ◌≤◌, inl, inr, List, [], ◌∷◌, length, get_or, map, Option, Some, None, option_and_then, unwrap_or, refl, sym, ap, ◌∙◌, subst, arith}
use Rattle.std.proofs.lemmas.List.{length-map, get_or-map}
use Rattle.std.proofs.lemmas.List.Elements.{Contains-get_or}
use Rattle.std.proofs.lemmas.Option.{slice_get_past}
use Rattle.std.specs.Prelude.{IsSome, IsNone, IsSomeAnd}
use Rattle.serde_json.specs.Data.{Data}
use Rattle.bx_forms.specs.declared.table.TheConstants.{FORMS}
use Rattle.bx_forms.specs.Forms.{form_name, form_count}
use Rattle.bx_library.specs.declared.dot.Dot.{Dot}
use Rattle.bx_library.specs.declared.fault.Field.TheVariants.{Of}
use Rattle.bx_library.specs.declared.fault.LibraryFault.{LibraryFault}
use Rattle.bx_library.specs.declared.fault.LibraryFault.TheVariants.{Shape, NoDots}
use Rattle.bx_library.specs.Alike.{AreSame, HasSamePair}
use Rattle.bx_library.specs.Dots.{HaveSameDots}
use Rattle.bx_library.specs.Drawn.{AreDrawn, AreFine, lists_of}
use Rattle.bx_library.specs.Faults.{IsFree, ◌⊳◌, Where, HasBadDots, HasBadForm, AreAlike, HasSameDots}
use Rattle.bx_library.specs.Values.{dots_of, form_value, listed_dots}
use Rattle.bx_library.proofs.DotSets.{one_ascending}

some_none : {X : Type 0} (x : X) → IsNone (Some x) → ⊥
some_none x h = cc

-- a list with which nothing is wrong has a dot
nonempty_list : (w h form : ℕ) (l : Option (List Dot)) → IsFree (Where (IsNone l) (Shape (Of form)) ⊳ (λ fault. IsSomeAnd l (λ dots. HasBadDots w h form dots fault))) → 0 < length (unwrap_or l [])
nonempty_list w h form None free = absurd (free (Shape (Of form)) (inl (record { holds = refl; is = refl })))
nonempty_list w h form (Some []) free = absurd (free (NoDots form) (inr ((λ fault at. some_none {X = List Dot} [] at.holds), inl (record { holds = refl; is = refl }))))
nonempty_list w h form (Some (d ∷ ds)) free = omega arith

nonempty : (w h form : ℕ) (o : Option Data) → IsFree (HasBadForm w h form o) → IsSome o → 0 < length (unwrap_or (option_and_then dots_of o) [])
nonempty w h form None free some = absurd (cc)
nonempty w h form (Some value) free some = nonempty_list w h form (dots_of value) free

offered : (o : Option Data) → 0 < length (unwrap_or (option_and_then dots_of o) []) → IsSome o
offered None h = absurd (omega arith)
offered (Some value) h = refl

nonempty_same : (xs ys : List Dot) → HaveSameDots xs ys → 0 < length ys → 0 < length xs
nonempty_same xs [] same h = absurd (omega arith)
nonempty_same xs (y ∷ ys) same h =
    let (k, below, is) = (same y).1 (Contains-get_or (y ∷ ys) 0 y h) in
    omega arith

turned : (xs ys : List Dot) → HaveSameDots xs ys → HaveSameDots ys xs
turned xs ys same = λ dot. ((same dot).1, (same dot).0)

pub joined : (xs ys zs : List Dot) → HaveSameDots xs ys → HaveSameDots ys zs → HaveSameDots xs zs
joined xs ys zs same also = λ dot. ((λ h. (also dot).0 ((same dot).0 h)), (λ h. (same dot).1 ((also dot).1 h)))

pub alike_from_same : (w h : ℕ) (forms : Data) (all : List (List Dot)) → AreDrawn w h forms all → (f g : ℕ) → AreSame all f g → AreAlike forms f g
alike_from_same w h forms all drawn f g same =
    let ds = get_or all f [] in
    let es = get_or all g [] in
    let both : HaveSameDots ds es = subst (HaveSameDots ds) same.same (λ dot. ((λ h. h), (λ h. h))) in
    let second : 0 < length es = subst (λ (l : List Dot). 0 < length l) same.same same.offered in
    record {
      order = same.order;
      group = same.group;
      first = offered (form_value forms f) (nonempty_same (listed_dots forms f) ds (drawn f).same same.offered);
      second = offered (form_value forms g) (nonempty_same (listed_dots forms g) es (drawn g).same second);
      same = joined (listed_dots forms f) ds (listed_dots forms g) (drawn f).same (joined ds es (listed_dots forms g) both (turned (listed_dots forms g) es (drawn g).same));
    }

pub same_from_alike : (w h : ℕ) (forms : Data) (all : List (List Dot)) → AreDrawn w h forms all → AreFine w h forms → (f g : ℕ) → AreAlike forms f g → AreSame all f g
same_from_alike w h forms all drawn fine f g alike =
    let ds = get_or all f [] in
    let es = get_or all g [] in
    record {
      order = alike.order;
      group = alike.group;
      offered = nonempty_same ds (listed_dots forms f) (turned (listed_dots forms f) ds (drawn f).same) (nonempty w h f (form_value forms f) (fine f) alike.first);
      same = one_ascending ds es (drawn f).ascending (drawn g).ascending
          (joined ds (listed_dots forms f) es (turned (listed_dots forms f) ds (drawn f).same) (joined (listed_dots forms f) (listed_dots forms g) es alike.same (drawn g).same));
    }

pub least_alike : (w h : ℕ) (forms : Data) (all : List (List Dot)) → AreDrawn w h forms all → AreFine w h forms → (fault : LibraryFault) → HasSamePair all fault → HasSameDots forms fault
least_alike w h forms all drawn fine fault least = record {
  f = least.f;
  g = least.g;
  alike = alike_from_same w h forms all drawn least.f least.g least.same;
  least_f = λ e k below alike. least.least_f e k below (same_from_alike w h forms all drawn fine e k alike);
  least_g = λ k below alike. least.least_g k below (same_from_alike w h forms all drawn fine least.f k alike);
  is = least.is;
}

pub none_alike : (w h : ℕ) (forms : Data) (all : List (List Dot)) → AreDrawn w h forms all → AreFine w h forms → ((f g : ℕ) → AreSame all f g → ⊥) → IsFree (HasSameDots forms)
none_alike w h forms all drawn fine none = λ fault same. none same.f same.g (same_from_alike w h forms all drawn fine same.f same.g same.alike)

pub no_name : (form : ℕ) → form_count ≤ form → form_name form ≡ None
no_name form past = slice_get_past (map (λ line. line.0.now) FORMS) form (rw length-map past)

-- a form that isn't in the table has no value
pub no_value : (forms : Data) (form : ℕ) → form_count ≤ form → form_value forms form ≡ None
no_value forms form past = rw (no_name form past) refl

-- the list that a vector holds
pub lists_at : (vs : List (Vec Dot Global)) (k : ℕ) (v : Vec Dot Global) → k < length vs → v ≡ get_or vs k v → get_or (lists_of vs) k [] ≡ v.items
lists_at vs k v below e = get_or-map (λ (x : Vec Dot Global). x.items) vs k v [] below ∙ ap (λ (x : Vec Dot Global). x.items) (sym e)
