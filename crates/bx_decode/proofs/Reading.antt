-- What is read of true bits item by item, in the end the layout that they mean.
use Rattle.std.proofs.Common.{◌≡◌, ℕ, zero, suc, ◌+◌, ◌<◌, ◌≤◌, ◌⊎◌, Bool, false, List, [], ◌∷◌, ◌++◌, length, get_or, slice_get, Option, Some, None, inl, inr, refl, sym, ap, ◌∙◌, subst, arith}
use Rattle.std.proofs.lemmas.Bool.{cases_Bool, cases_lt, false≢true}
use Rattle.std.proofs.lemmas.List.{get_or_append_left, get_or-append-add, get_or_past, length-append}
use Rattle.std.proofs.lemmas.Option.{get_or_from_slice_get, slice_get-get_or}
use Rattle.bx_grid.specs.declared.ratio.Ratio.{Ratio}
use Rattle.bx_layout.specs.declared.layout.Layout.{Layout}
use Rattle.bx_layout.specs.Permits.{PermitTest}
use Rattle.bx_network.specs.Networks.{Network}
use Rattle.bx_network.proofs.Lists.{got-within}
use Rattle.bx_cnf.specs.Literals.{value_of}
use Rattle.bx_encode.specs.declared.variable.Variable.TheVariants.{NodeOn, EdgeOn}
use Rattle.bx_encode.specs.Variables.{border_count, number}
use Rattle.bx_decode.specs.Meaning.{AreTrue, IsSet, Means}
use Rattle.bx_decode.specs.Reading.{StandSomewhere, CarriesBy, ArePlaces, AreBorders}
use Rattle.bx_decode.proofs.Clauses.{IsOn}
use Rattle.bx_decode.proofs.Families.{somewhere, once, carried-once}

-- ---- one item more

item-more : {X : Type 0} (P : ℕ → X → Type 0) (xs : List X) (x d : X) (n : ℕ) → length xs ≡ n → ((k : ℕ) → k < n → P k (get_or xs k d)) → P n x →
    (k : ℕ) → k < n + 1 → P k (get_or (xs ++ x ∷ []) k d)
item-more {X} P xs x d n whole before here k low = elim (cases_lt k n) [
  | inl less ↦ subst (P k) (sym (get_or_append_left xs (x ∷ []) d k (omega arith))) (before k less)
  | inr more ↦
      let last : k ≡ length xs + 0 = omega arith in
      let same : n ≡ k = omega arith in
      let found : get_or (xs ++ x ∷ []) k d ≡ x = ap (λ j. get_or (xs ++ x ∷ []) j d) last ∙ get_or-append-add xs (x ∷ []) 0 d in
      subst (P k) (sym found) (subst (λ j. P j x) same here)
]

pub places-none : (N : Network) (r : Ratio) (bits : List Bool) → ArePlaces N r bits 0 []
places-none N r bits = record { whole = refl; each = λ v low. absurd (omega arith) }

pub places-more : (N : Network) (r : Ratio) (bits : List Bool) (n t : ℕ) (places now : List ℕ) → now ≡ places ++ t ∷ [] → ArePlaces N r bits n places → IsSet N r bits (NodeOn n t) → ArePlaces N r bits (n + 1) now
places-more N r bits n t places now put are set = subst (ArePlaces N r bits (n + 1)) (sym put) (record {
  whole = omega (arith, length-append places (t ∷ []), are.whole);
  each = item-more (λ v u. IsSet N r bits (NodeOn v u)) places t 0 n are.whole are.each set;
})

pub borders-none : (N : Network) (r : Ratio) (bits : List Bool) → AreBorders N r bits 0 []
borders-none N r bits = record { whole = refl; each = λ b low. absurd (omega arith) }

pub borders-more : (N : Network) (r : Ratio) (bits : List Bool) (n : ℕ) (o : Option ℕ) (borders now : List (Option ℕ)) → now ≡ borders ++ o ∷ [] → AreBorders N r bits n borders → CarriesBy N r bits n o → AreBorders N r bits (n + 1) now
borders-more N r bits n o borders now put are carries = subst (AreBorders N r bits (n + 1)) (sym put) (record {
  whole = omega (arith, length-append borders (o ∷ []), are.whole);
  each = item-more (λ b p. CarriesBy N r bits b p) borders o None n are.whole are.each carries;
})

-- ---- the layout that is read

pub stand-somewhere : (N : Network) (permit : PermitTest) (r : Ratio) (bits : List Bool) → AreTrue N permit r bits → StandSomewhere N r bits
stand-somewhere N permit r bits all v node = let (t, tile, on) = somewhere N permit r bits all v node in (t, ((node, tile), on))

pub means-read : (N : Network) (permit : PermitTest) (r : Ratio) (bits : List Bool) (places : List ℕ) (borders : List (Option ℕ)) → AreTrue N permit r bits →
    ArePlaces N r bits (length N.nodes) places → AreBorders N r bits (border_count r) borders → Means N r bits (record { ratio = r; places = places; borders = borders })
means-read N permit r bits places borders all are carry = record {
  ratio = refl;
  places = are.whole;
  borders = carry.whole;
  stands = λ v t. (stood v t, stands v t);
  carries = λ e b. (carried e b, carries e b);
}
  where
    stood : (v t : ℕ) → slice_get places v ≡ Some t → IsSet N r bits (NodeOn v t)
    stood v t is =
        let whole = are.whole in
        let low = got-within places v t is in
        subst (λ u. IsSet N r bits (NodeOn v u)) (get_or_from_slice_get places v t 0 is) (are.each v (omega arith))

    stands : (v t : ℕ) → IsSet N r bits (NodeOn v t) → slice_get places v ≡ Some t
    stands v t ((node, tile), on) =
        let whole = are.whole in
        let ((_, other), own) = are.each v node in
        slice_get-get_or places v 0 (omega arith) ∙ ap Some (once N permit r bits all v (get_or places v 0) t node other tile own on)

    carried : (e b : ℕ) → get_or borders b None ≡ Some e → IsSet N r bits (EdgeOn e b)
    carried e b is = elim (cases_lt b (border_count r)) [
      | inl low ↦ subst (CarriesBy N r bits b) is (carry.each b low)
      | inr high ↦ let whole = carry.whole in let none = get_or_past borders b None (omega arith) in let clash : None ≡ Some e = sym none ∙ is in cc
    ]

    carries : (e b : ℕ) → IsSet N r bits (EdgeOn e b) → get_or borders b None ≡ Some e
    carries e b ((edge, inside), on) = by (get_or borders b None) (carry.each b inside)
      where
        by : (o : Option ℕ) → CarriesBy N r bits b o → o ≡ Some e
        by None none = absurd (none e ((edge, inside), on))
        by (Some f) ((other, _), own) = ap Some (carried-once N permit r bits all f e b other edge inside own on)

-- the same of what was read as it stands in the layout
pub means-as : (N : Network) (permit : PermitTest) (r : Ratio) (bits : List Bool) (ps places : List ℕ) (bs borders : List (Option ℕ)) → AreTrue N permit r bits → ps ≡ places → bs ≡ borders →
    ArePlaces N r bits (length N.nodes) places → AreBorders N r bits (border_count r) borders → Means N r bits (record { ratio = r; places = ps; borders = bs })
means-as N permit r bits ps places bs borders all same alike are carry =
    means-read N permit r bits ps bs all (subst (ArePlaces N r bits (length N.nodes)) (sym same) are) (subst (AreBorders N r bits (border_count r)) (sym alike) carry)

-- ---- there is one

places-some : (N : Network) (r : Ratio) (bits : List Bool) → StandSomewhere N r bits → (n : ℕ) → n ≤ length N.nodes → (places : List ℕ) × ArePlaces N r bits n places
places-some N r bits stand zero low = ([], places-none N r bits)
places-some N r bits stand (suc n) low =
    let (places, are) = places-some N r bits stand n (omega arith) in
    let (t, set) = stand n (omega arith) in
    let next : n + 1 ≡ suc n = omega arith in
    (places ++ t ∷ [], subst (λ m. ArePlaces N r bits m (places ++ t ∷ [])) next (places-more N r bits n t places (places ++ t ∷ []) refl are set))

-- the edge of a border, among the first m
edge-or-none : (N : Network) (r : Ratio) (bits : List Bool) (b m : ℕ) → ((e : ℕ) × (e < m) × IsOn N r bits (EdgeOn e b)) ⊎ ((e : ℕ) → e < m → IsOn N r bits (EdgeOn e b) → ⊥)
edge-or-none N r bits b zero = inr (λ e low on. omega arith)
edge-or-none N r bits b (suc m) = elim (edge-or-none N r bits b m) [
  | inl (e, low, on) ↦ inl (e, omega arith, on)
  | inr none ↦ elim (cases_Bool (value_of bits (number N r (EdgeOn m b)))) [
    | inl on ↦ inl (m, omega arith, on)
    | inr off ↦ inr (still none off)
  ]
]
  where
    still : ((e : ℕ) → e < m → IsOn N r bits (EdgeOn e b) → ⊥) → value_of bits (number N r (EdgeOn m b)) ≡ false → (e : ℕ) → e < suc m → IsOn N r bits (EdgeOn e b) → ⊥
    still none off e low on = elim (cases_lt e m) [
      | inl less ↦ none e less on
      | inr more ↦ let same : e ≡ m = omega arith in false≢true (sym off ∙ subst (λ d. IsOn N r bits (EdgeOn d b)) same on)
    ]

carries-some : (N : Network) (r : Ratio) (bits : List Bool) (b : ℕ) → b < border_count r → (o : Option ℕ) × CarriesBy N r bits b o
carries-some N r bits b inside = elim (edge-or-none N r bits b (length N.edges)) [
  | inl (e, low, on) ↦ (Some e, ((low, inside), on))
  | inr none ↦ (None, λ e set. none e set.0.0 set.1)
]

borders-some : (N : Network) (r : Ratio) (bits : List Bool) (n : ℕ) → n ≤ border_count r → (borders : List (Option ℕ)) × AreBorders N r bits n borders
borders-some N r bits zero low = ([], borders-none N r bits)
borders-some N r bits (suc n) low =
    let (borders, are) = borders-some N r bits n (omega arith) in
    let (o, carries) = carries-some N r bits n (omega arith) in
    let next : n + 1 ≡ suc n = omega arith in
    (borders ++ o ∷ [], subst (λ m. AreBorders N r bits m (borders ++ o ∷ [])) next (borders-more N r bits n o borders (borders ++ o ∷ []) refl are carries))

-- true bits mean some layout
pub means-some : (N : Network) (permit : PermitTest) (r : Ratio) (bits : List Bool) → AreTrue N permit r bits → (L : Layout) × Means N r bits L
means-some N permit r bits all =
    let (places, are) = places-some N r bits (stand-somewhere N permit r bits all) (length N.nodes) (omega arith) in
    let (borders, carry) = borders-some N r bits (border_count r) (omega arith) in
    (record { ratio = r; places = places; borders = borders }, means-read N permit r bits places borders all are carry)
