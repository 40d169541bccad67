-- Places in a trail, and the literals that became false last.
use Rattle.std.proofs.Common.{◌≡◌, ◌≢◌, ℕ, zero, suc, ◌-◌, ◌<◌, ◌≤◌, List, [], ◌∷◌, ◌++◌, length, get_or, set, take, slice_get, Some, refl, sym, ◌∙◌, ap, subst, inl, inr, ◌⊎◌, arith, length-set, length-take}
use Rattle.std.specs.Prelude.{All, Contains}
use Rattle.std.proofs.lemmas.Bool.{cases_order, cases_lt}
use Rattle.std.proofs.lemmas.Option.{slice_get-get_or, slice_get_within, get_or_from_slice_get}
use Rattle.std.proofs.lemmas.List.{get_or-set_same, get_or-set_other, get_or-take}
use Rattle.std.proofs.lemmas.List.Elements.{All-contains, Contains-append_left, Contains-push, Contains-push_cases}
use Rattle.bx_cnf.specs.Literals.{Literal, negated}
use Rattle.bx_cnf.specs.Assignments.{IsFalse, IsFree}
use Rattle.bx_watch.specs.declared.watches.Pair.{Pair}
use Rattle.bx_watch.specs.Watching.{IsOver, AreApart}
use Rattle.bx_watch.specs.Readings.{ArePlaces, IsRank, Outlasts}
use Rattle.bx_watch.specs.Watches.{IsOf, IsWatching, IsOrdered, IsChosen}
use Rattle.bx_watch.proofs.Trails.{fresh, same_place}
use Rattle.bx_watch.proofs.ClauseReads.{contains-at, get-push, get-front}
use Rattle.bx_watch.proofs.Lits.{lit-eq, negated-same, place-of, has-take}

pub ArePlaces-assigned : (vars : ℕ) (places : List ℕ) (trail : List Literal) (l : Literal) → ArePlaces vars places trail → All (IsOver vars) trail → IsOver vars l → IsFree trail l
    → ArePlaces vars (set places (l.var - 1) (length trail)) (trail ++ l ∷ [])
ArePlaces-assigned vars places trail l are over is_over free = record {
  each_has = length-set places (l.var - 1) (length trail) ∙ are.each_has;
  at = λ i m h. elim (get-push trail l i m h) [
    | inl before ↦
        let has_m : Contains trail m = contains-at trail i m before in
        let over_m : IsOver vars m = All-contains (IsOver vars) trail m over has_m in
        get_or-set_other places (l.var - 1) (m.var - 1) (length trail) 0 (same_place l.var m.var is_over.0 over_m.0 (λ e. fresh trail l m free has_m (sym e))) ∙ are.at i m before
    | inr last ↦ ap (λ (x : Literal). get_or (set places (l.var - 1) (length trail)) (x.var - 1) 0) (sym last.1)
        ∙ (get_or-set_same places (l.var - 1) (length trail) 0 (omega (arith, are.each_has, is_over.0, is_over.1)) ∙ sym last.0)
  ];
}

pub ArePlaces-freed : (vars : ℕ) (places : List ℕ) (trail : List Literal) (l : Literal) → ArePlaces vars places (trail ++ l ∷ []) → ArePlaces vars places trail
ArePlaces-freed vars places trail l are = record { each_has = are.each_has; at = λ i m h. are.at i m (get-front trail i m l h) }

pub rank-false : (vars : ℕ) (places : List ℕ) (trail : List Literal) (l : Literal) (rank : ℕ) → ArePlaces vars places trail → IsFalse trail l → rank ≡ get_or places (l.var - 1) 0 → IsRank trail l rank
rank-false vars places trail l rank are fails is =
    let (i, at) = place-of trail (negated l) fails in
    let here : rank ≡ i = is ∙ are.at i (negated l) at in
    inl (omega (arith, here, slice_get_within trail i (negated l) at), subst (λ (n : ℕ). slice_get trail n ≡ Some (negated l)) (sym here) at)

-- a trail has a literal at one place
one-index : (trail : List Literal) (i j : ℕ) (l : Literal) → AreApart trail → slice_get trail i ≡ Some l → slice_get trail j ≡ Some l → i ≡ j
one-index trail i j l apart at_i at_j = elim (cases_order i j) [
  | inl same ↦ same
  | inr (inl before) ↦ absurd (apart i j l before (slice_get_within trail j l at_j) (ap (λ (x : Literal). x.var) (get_or_from_slice_get trail i l l at_i ∙ sym (get_or_from_slice_get trail j l l at_j))))
  | inr (inr behind) ↦ absurd (apart j i l behind (slice_get_within trail i l at_i) (ap (λ (x : Literal). x.var) (get_or_from_slice_get trail j l l at_j ∙ sym (get_or_from_slice_get trail i l l at_i))))
]

pub rank-outlasts : (trail : List Literal) (l m : Literal) (r s : ℕ) → AreApart trail → IsRank trail l r → IsRank trail m s → l ≢ m → s ≤ r → Outlasts trail l m
rank-outlasts trail l m r s apart (inr none) of_m differ le i at = absurd (none.1 (contains-at trail i (negated l) at))
rank-outlasts trail l m r s apart (inl is) (inr none) differ le i at = absurd (omega (arith, is.0, none.0, le))
rank-outlasts trail l m r s apart (inl is) (inl is_m) differ le i at =
    let here : i ≡ r = one-index trail i r (negated l) apart at is.1 in
    elim (cases_lt s r) [
      | inl before ↦ has-take trail i s (negated m) is_m.1 (omega (arith, before, here))
      | inr past ↦
          let same : s ≡ r = omega (arith, past, le) in
          absurd (differ (negated-same l m (some-same (negated l) (negated m) (sym is.1 ∙ (ap (slice_get trail) (sym same) ∙ is_m.1)))))
    ] where
      some-same : (a b : Literal) → Some a ≡ Some b → a ≡ b
      some-same a b e = cc

take-more : (trail : List Literal) (j i : ℕ) (m : Literal) → j ≤ i → Contains (take j trail) m → Contains (take i trail) m
take-more trail j i m le (k, below, is) =
    let less : k < j = omega (arith, below, length-take j trail) in
    (k, omega (arith, below, length-take j trail, length-take i trail, le), get_or-take i trail k m (omega (arith, less, le)) ∙ (sym (get_or-take j trail k m less) ∙ is))

pub outlasts-on : (trail : List Literal) (x y m : Literal) → Outlasts trail x y → Outlasts trail y m → Outlasts trail x m
outlasts-on trail x y m first second i at =
    let (k, below, is) = first i at in
    let less : k < i = omega (arith, below, length-take i trail) in
    let there : slice_get trail k ≡ Some (negated y) = slice_get-get_or trail k (negated y) (omega (arith, below, length-take i trail)) ∙ ap (λ (z : Literal). Some z) (sym (get_or-take i trail k (negated y) less) ∙ is) in
    take-more trail k i (negated m) (omega (arith, less)) (second k there)

pub chosen-keep : (trail front : List Literal) (pair : Pair) (l : Literal) → IsChosen trail front pair → Outlasts trail pair.second l → IsChosen trail (front ++ l ∷ []) pair
chosen-keep trail front pair l is outlasts = record {
  differ = is.differ;
  outlasts = is.outlasts;
  has = λ x of. Contains-append_left front (l ∷ []) x (is.has x of);
  others = λ m has isnt. elim (Contains-push_cases front l m has) [
    | inl before ↦ is.others m before isnt
    | inr here ↦ subst (Outlasts trail pair.second) here outlasts
  ];
}

pub chosen-new : (trail front : List Literal) (pair new : Pair) (l : Literal) → IsChosen trail front pair → Outlasts trail l pair.second → IsOrdered trail pair.first l new → pair.first ≢ l → IsChosen trail (front ++ l ∷ []) new
chosen-new trail front pair new l is outlasts ordered differ = record {
  differ = λ e. differ (same_of ordered.same e);
  outlasts = ordered.outlasts;
  has = λ x of. elim (one_of ordered.same x of) [
    | inl first ↦ subst (Contains (front ++ l ∷ [])) (sym first) (Contains-append_left front (l ∷ []) pair.first (is.has pair.first (inl refl)))
    | inr here ↦ subst (Contains (front ++ l ∷ [])) (sym here) (Contains-push front l)
  ];
  others = λ m has isnt. elim (Contains-push_cases front l m has) [
    | inr here ↦ absurd (isnt (subst (IsOf new) here (has_l ordered.same)))
    | inl before ↦ elim (lit-eq m pair.second) [
      | inl second ↦ subst (Outlasts trail new.second) (sym second) (over_second ordered.same)
      | inr apart ↦ outlasts-on trail new.second pair.second m (over_second ordered.same) (is.others m before (neither m isnt apart))
    ]
  ];
} where
  same_of : ((new.first ≡ pair.first) × (new.second ≡ l)) ⊎ ((new.first ≡ l) × (new.second ≡ pair.first)) → new.first ≡ new.second → pair.first ≡ l
  same_of (inl t) e = sym t.0 ∙ (e ∙ t.1)
  same_of (inr t) e = sym t.1 ∙ (sym e ∙ t.0)

  one_of : ((new.first ≡ pair.first) × (new.second ≡ l)) ⊎ ((new.first ≡ l) × (new.second ≡ pair.first)) → (x : Literal) → IsOf new x → (x ≡ pair.first) ⊎ (x ≡ l)
  one_of (inl t) x (inl e) = inl (e ∙ t.0)
  one_of (inl t) x (inr e) = inr (e ∙ t.1)
  one_of (inr t) x (inl e) = inr (e ∙ t.0)
  one_of (inr t) x (inr e) = inl (e ∙ t.1)

  has_l : ((new.first ≡ pair.first) × (new.second ≡ l)) ⊎ ((new.first ≡ l) × (new.second ≡ pair.first)) → IsOf new l
  has_l (inl t) = inr (sym t.1)
  has_l (inr t) = inl (sym t.0)

  has_first : ((new.first ≡ pair.first) × (new.second ≡ l)) ⊎ ((new.first ≡ l) × (new.second ≡ pair.first)) → IsOf new pair.first
  has_first (inl t) = inl (sym t.0)
  has_first (inr t) = inr (sym t.1)

  over_second : ((new.first ≡ pair.first) × (new.second ≡ l)) ⊎ ((new.first ≡ l) × (new.second ≡ pair.first)) → Outlasts trail new.second pair.second
  over_second (inl t) = subst (λ (z : Literal). Outlasts trail z pair.second) (sym t.1) outlasts
  over_second (inr t) = subst (λ (z : Literal). Outlasts trail z pair.second) (sym t.1) is.outlasts

  neither : (m : Literal) → (IsOf new m → ⊥) → m ≢ pair.second → IsOf pair m → ⊥
  neither m isnt apart (inl e) = isnt (subst (IsOf new) (sym e) (has_first ordered.same))
  neither m isnt apart (inr e) = apart e

pub chosen-first : (trail : List Literal) (one other : Literal) (pair : Pair) → IsOrdered trail one other pair → one ≢ other → IsChosen trail (one ∷ other ∷ []) pair
chosen-first trail one other pair ordered differ = record {
  differ = λ e. differ (same_of ordered.same e);
  outlasts = ordered.outlasts;
  has = λ x of. has_of ordered.same x of;
  others = λ m has isnt. absurd (isnt (of_has ordered.same m has));
} where
  same_of : ((pair.first ≡ one) × (pair.second ≡ other)) ⊎ ((pair.first ≡ other) × (pair.second ≡ one)) → pair.first ≡ pair.second → one ≡ other
  same_of (inl t) e = sym t.0 ∙ (e ∙ t.1)
  same_of (inr t) e = sym t.1 ∙ (sym e ∙ t.0)

  has_of : ((pair.first ≡ one) × (pair.second ≡ other)) ⊎ ((pair.first ≡ other) × (pair.second ≡ one)) → (x : Literal) → IsOf pair x → Contains (one ∷ other ∷ []) x
  has_of (inl t) x (inl e) = (0, omega arith, sym (e ∙ t.0))
  has_of (inl t) x (inr e) = (1, omega arith, sym (e ∙ t.1))
  has_of (inr t) x (inl e) = (1, omega arith, sym (e ∙ t.0))
  has_of (inr t) x (inr e) = (0, omega arith, sym (e ∙ t.1))

  of_has : ((pair.first ≡ one) × (pair.second ≡ other)) ⊎ ((pair.first ≡ other) × (pair.second ≡ one)) → (m : Literal) → Contains (one ∷ other ∷ []) m → IsOf pair m
  of_has (inl t) m (zero, below, is) = inl (sym is ∙ sym t.0)
  of_has (inl t) m (suc zero, below, is) = inr (sym is ∙ sym t.1)
  of_has (inl t) m (suc (suc k), below, is) = absurd (omega (arith, below))
  of_has (inr t) m (zero, below, is) = inr (sym is ∙ sym t.1)
  of_has (inr t) m (suc zero, below, is) = inl (sym is ∙ sym t.0)
  of_has (inr t) m (suc (suc k), below, is) = absurd (omega (arith, below))

pub watching-chosen : (trail literals : List Literal) (pair : Pair) → IsChosen trail literals pair → IsWatching trail literals pair
watching-chosen trail literals pair is = record {
  has = is.has;
  alone = λ e. absurd (is.differ e);
  guarded = λ i x of at. inl (λ m has isnt. elim of [
    | inl first ↦ outlasts-on trail pair.first pair.second m is.outlasts (is.others m has isnt) i (subst (λ (z : Literal). slice_get trail i ≡ Some (negated z)) first at)
    | inr second ↦ is.others m has isnt i (subst (λ (z : Literal). slice_get trail i ≡ Some (negated z)) second at)
  ]);
}

pub watching-one : (trail : List Literal) (l : Literal) → IsWatching trail (l ∷ []) (record { first = l; second = l })
watching-one trail l = record {
  has = λ x of. elim of [ inl e ↦ (0, omega arith, sym e) | inr e ↦ (0, omega arith, sym e) ];
  alone = λ e. refl;
  guarded = λ i x of at. inl (λ m has isnt. absurd (isnt (only m has)));
} where
  only : (m : Literal) → Contains (l ∷ []) m → IsOf (record { first = l; second = l }) m
  only m (zero, below, is) = inl (sym is)
  only m (suc k, below, is) = absurd (omega (arith, below))
