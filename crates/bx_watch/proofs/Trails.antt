-- Trails: no literal is true and false, and what assigning and freeing make of values.
use Rattle.std.proofs.Common.{◌≡◌, ◌≢◌, ℕ, ◌-◌, ◌<◌, Bool, true, false, not, List, [], ◌∷◌, ◌++◌, length, get_or, set, take, Option, Some, None, refl, sym, ◌∙◌, ap, subst, inl, inr, ◌⊎◌, arith, length-append, length-set}
use Rattle.std.specs.Prelude.{All, Contains}
use Rattle.std.proofs.Math.Bool.{beq}
use Rattle.std.proofs.lemmas.Bool.{cases_order, cases_eq}
use Rattle.std.proofs.lemmas.List.{get_or_default, get_or-set_same, get_or-set_other, get_or_append_left, get_or_push, take-append-le, take_all}
use Rattle.std.proofs.lemmas.List.Elements.{All-contains, All-from_get_or, All-get_or, Contains-push, Contains-push_cases, Contains-append_left}
use Rattle.std.proofs.lemmas.List.Quantifiers.{all_pairs_push}
use Rattle.bx_cnf.specs.Literals.{Literal, negated}
use Rattle.bx_cnf.specs.Assignments.{IsFalse, IsFree}
use Rattle.bx_watch.specs.Watching.{IsOver, AreApart}
use Rattle.bx_watch.specs.Readings.{value_at, AreValues, IsValue}

pub no_negation : (b : Bool) → b ≡ not b → ⊥
no_negation true e = cc
no_negation false e = cc

-- two literals of a trail over one variable are one
pub one_of_variable : (trail : List Literal) (l m : Literal) → AreApart trail → Contains trail l → Contains trail m → l.var ≡ m.var → l ≡ m
one_of_variable trail l m apart (i, below_i, is_l) (j, below_j, is_m) same = elim (cases_order i j) [
  | inl here ↦ sym is_l ∙ (get_or_default trail i l m below_i ∙ (ap (λ k. get_or trail k m) here ∙ is_m))
  | inr (inl before) ↦ absurd (apart i j l before below_j (ap (λ (x : Literal). x.var) is_l ∙ (same ∙ sym (ap (λ (x : Literal). x.var) (get_or_default trail j l m below_j ∙ is_m)))))
  | inr (inr behind) ↦ absurd (apart j i m behind below_i (ap (λ (x : Literal). x.var) is_m ∙ (sym same ∙ sym (ap (λ (x : Literal). x.var) (get_or_default trail i m l below_i ∙ is_l)))))
]

-- no literal is true and false
pub never_both : (trail : List Literal) (l : Literal) → AreApart trail → Contains trail l → IsFalse trail l → ⊥
never_both trail l apart holds fails = no_negation l.positive (ap (λ (x : Literal). x.positive) (one_of_variable trail l (negated l) apart holds fails refl))

pub literal-same : (l m : Literal) → l.var ≡ m.var → l.positive ≡ m.positive → l ≡ m
literal-same l m v p = ap (λ (n : ℕ). record { var = n; positive = l.positive }) v ∙ ap (λ (b : Bool). record { var = m.var; positive = b }) p

pub either : (a b : Bool) → (a ≡ b) ⊎ (a ≡ not b)
either true true = inl refl
either true false = inr refl
either false true = inr refl
either false false = inl refl

-- a literal over a free variable is over none of the trail's
pub fresh : (trail : List Literal) (l m : Literal) → IsFree trail l → Contains trail m → m.var ≢ l.var
fresh trail l m free has same = elim (either m.positive l.positive) [
  | inl e ↦ free.0 (subst (Contains trail) (literal-same m l same e) has)
  | inr e ↦ free.1 (subst (Contains trail) (literal-same m (negated l) same e) has)
]

pub AreApart-assigned : (trail : List Literal) (l : Literal) → AreApart trail → IsFree trail l → AreApart (trail ++ l ∷ [])
AreApart-assigned trail l apart free =
    all_pairs_push (λ (a b : Literal). a.var ≢ b.var) trail l apart (λ k d below. fresh trail l (get_or trail k d) free (k, below, get_or_default trail k _ d below))

pub same_place : (u v : ℕ) → 0 < u → 0 < v → u ≢ v → v - 1 ≢ u - 1
same_place u v hu hv n e = n (omega (arith, hu, hv, e))

pub AreValues-assigned : (vars : ℕ) (values : List (Option Bool)) (trail : List Literal) (l : Literal)
    → AreValues vars values trail → All (IsOver vars) trail → IsOver vars l → IsFree trail l
    → AreValues vars (set values (l.var - 1) (Some l.positive)) (trail ++ l ∷ [])
AreValues-assigned vars values trail l are over is_over free =
    let within : l.var - 1 < length values = omega (arith, are.each_has, is_over.0, is_over.1) in
    record {
      each_has = length-set values (l.var - 1) (Some l.positive) ∙ are.each_has;
      forth = λ m over_m h. elim (cases_eq l.var m.var) [
        | inl same ↦
            let e : Some l.positive ≡ Some m.positive = sym (get_or-set_same values (l.var - 1) (Some l.positive) None within) ∙ (ap (λ v. value_at (set values (l.var - 1) (Some l.positive)) v) same ∙ h) in
            subst (Contains (trail ++ l ∷ [])) (literal-same l m same (some-same l.positive m.positive e)) (Contains-push trail l)
        | inr other ↦ Contains-append_left trail (l ∷ []) m
            (are.forth m over_m (sym (get_or-set_other values (l.var - 1) (m.var - 1) (Some l.positive) None (same_place l.var m.var is_over.0 over_m.0 other)) ∙ h))
      ];
      back = λ m has. elim (Contains-push_cases trail l m has) [
        | inl before ↦
            let over_m = All-contains (IsOver vars) trail m over before in
            get_or-set_other values (l.var - 1) (m.var - 1) (Some l.positive) None (same_place l.var m.var is_over.0 over_m.0 (λ e. fresh trail l m free before (sym e))) ∙ are.back m before
        | inr here ↦ subst (λ (x : Literal). value_at (set values (l.var - 1) (Some l.positive)) x.var ≡ Some x.positive) here (get_or-set_same values (l.var - 1) (Some l.positive) None within)
      ];
    } where
      some-same : (a b : Bool) → Some a ≡ Some b → a ≡ b
      some-same a b e = cc

-- the front of a trail
pub AreApart-front : (front back : List Literal) → AreApart (front ++ back) → AreApart front
AreApart-front front back apart i j d before below =
    let longer : j < length (front ++ back) = omega (arith, below, length-append front back) in
    let at_i : get_or (front ++ back) i d ≡ get_or front i d = get_or_append_left front back d i (omega (arith, before, below)) in
    let at_j : get_or (front ++ back) j d ≡ get_or front j d = get_or_append_left front back d j below in
    λ e. apart i j d before longer (ap (λ (x : Literal). x.var) at_i ∙ (e ∙ sym (ap (λ (x : Literal). x.var) at_j)))

pub last-apart : (trail : List Literal) (l m : Literal) → AreApart (trail ++ l ∷ []) → Contains trail m → m.var ≢ l.var
last-apart trail l m apart (k, below, is) =
    let longer : length trail < length (trail ++ l ∷ []) = omega (arith, length-append trail (l ∷ [])) in
    let at_k : get_or (trail ++ l ∷ []) k m ≡ m = get_or_append_left trail (l ∷ []) m k below ∙ is in
    let at_end : get_or (trail ++ l ∷ []) (length trail) m ≡ l = get_or_push trail l m (length trail) refl in
    λ e. apart k (length trail) m below longer (ap (λ (x : Literal). x.var) at_k ∙ (e ∙ sym (ap (λ (x : Literal). x.var) at_end)))

pub All-front : (P : Literal → Type 0) (trail : List Literal) (l : Literal) → All P (trail ++ l ∷ []) → All P trail
All-front P trail l all = All-from_get_or P trail l (λ i below. subst P (get_or_append_left trail (l ∷ []) l i below)
    (All-get_or P (trail ++ l ∷ []) i l (omega (arith, below, length-append trail (l ∷ []))) all))

pub AreApart-freed : (trail : List Literal) (l : Literal) → AreApart (trail ++ l ∷ []) → AreApart trail
AreApart-freed trail l = AreApart-front trail (l ∷ [])

pub AreValues-freed : (vars : ℕ) (values : List (Option Bool)) (trail : List Literal) (l : Literal)
    → AreValues vars values (trail ++ l ∷ []) → All (IsOver vars) (trail ++ l ∷ []) → AreApart (trail ++ l ∷ [])
    → AreValues vars (set values (l.var - 1) None) trail
AreValues-freed vars values trail l are over apart =
    let is_over : IsOver vars l = All-contains (IsOver vars) (trail ++ l ∷ []) l over (Contains-push trail l) in
    let within : l.var - 1 < length values = omega (arith, are.each_has, is_over.0, is_over.1) in
    record {
      each_has = length-set values (l.var - 1) None ∙ are.each_has;
      forth = λ m over_m h. elim (cases_eq l.var m.var) [
        | inl same ↦ absurd (none_some m.positive (sym (get_or-set_same values (l.var - 1) None None within) ∙ (ap (λ v. value_at (set values (l.var - 1) None) v) same ∙ h)))
        | inr other ↦ elim (Contains-push_cases trail l m (are.forth m over_m (sym (get_or-set_other values (l.var - 1) (m.var - 1) None None (same_place l.var m.var is_over.0 over_m.0 other)) ∙ h))) [
          | inl before ↦ before
          | inr here ↦ absurd (other (ap (λ (x : Literal). x.var) here))
        ]
      ];
      back = λ m has.
          let over_m : IsOver vars m = All-contains (IsOver vars) (trail ++ l ∷ []) m over (Contains-append_left trail (l ∷ []) m has) in
          let other : l.var ≢ m.var = λ e. last-apart trail l m apart has (sym e) in
          get_or-set_other values (l.var - 1) (m.var - 1) None None (same_place l.var m.var is_over.0 over_m.0 other) ∙ are.back m (Contains-append_left trail (l ∷ []) m has);
    } where
      none_some : (b : Bool) → None ≡ Some b → ⊥
      none_some b e = cc

pub AreValues-none : (vars : ℕ) (values : List (Option Bool)) → length values ≡ vars → ((k : ℕ) → k < vars → get_or values k None ≡ None) → AreValues vars values []
AreValues-none vars values e none = record {
  each_has = e;
  forth = λ m over h. absurd (none_some m.positive (sym (none (m.var - 1) (omega (arith, over.0, over.1))) ∙ h));
  back = λ m has. absurd (omega (arith, has.1));
} where
  none_some : (b : Bool) → None ≡ Some b → ⊥
  none_some b e = cc

-- what a variable's value says of a literal over it
pub value-some : (vars : ℕ) (values : List (Option Bool)) (trail : List Literal) (l : Literal) (value : Bool)
    → AreValues vars values trail → IsOver vars l → value_at values l.var ≡ Some value → IsValue trail l (Some (beq value l.positive))
value-some vars values trail l value are over h = by_sign value l.positive refl h where
  by_sign : (a b : Bool) → b ≡ l.positive → value_at values l.var ≡ Some a → IsValue trail l (Some (beq a b))
  by_sign true true e g = are.forth l over (g ∙ ap Some e)
  by_sign true false e g = are.forth (negated l) over (g ∙ ap (λ b. Some (not b)) e)
  by_sign false true e g = are.forth (negated l) over (g ∙ ap (λ b. Some (not b)) e)
  by_sign false false e g = are.forth l over (g ∙ ap Some e)

-- the front of a list
pub take-front : {X : Type 0} (xs : List X) (x : X) → take (length (xs ++ x ∷ []) - 1) (xs ++ x ∷ []) ≡ xs
take-front xs x = ap (λ n. take n (xs ++ x ∷ [])) (omega (arith, length-append xs (x ∷ []))) ∙ take-append-le (length xs) xs (x ∷ []) (omega arith) ∙ take_all (length xs) xs (omega arith)

pub value-none : (vars : ℕ) (values : List (Option Bool)) (trail : List Literal) (l : Literal) → AreValues vars values trail → value_at values l.var ≡ None → IsFree trail l
value-none vars values trail l are h = (λ has. none_some l.positive (sym h ∙ are.back l has), λ has. none_some (not l.positive) (sym h ∙ are.back (negated l) has)) where
  none_some : (b : Bool) → None ≡ Some b → ⊥
  none_some b e = cc

-- what a value that is known says
pub known-true : (trail : List Literal) (l : Literal) (value : Bool) → IsValue trail l (Some value) → value ≡ true → Contains trail l
known-true trail l value is e = subst (λ (b : Bool). IsValue trail l (Some b)) e is

pub known-false : (trail : List Literal) (l : Literal) (value : Bool) → IsValue trail l (Some value) → value ≡ false → IsFalse trail l
known-false trail l value is e = subst (λ (b : Bool). IsValue trail l (Some b)) e is

pub not-true : (b : Bool) → not b ≡ true → b ≡ false
not-true true e = sym e
not-true false e = refl

pub not-false : (b : Bool) → not b ≡ false → b ≡ true
not-false true e = refl
not-false false e = sym e
