-- Which literals of a trail are kept in a learned clause.
use Rattle.std.proofs.Common.{◌≡◌, ◌≢◌, ℕ, ◌<◌, ◌≤◌, Bool, true, false, ◌==◌, ◌&&◌, ◌||◌, if◌then◌else◌, List, [], ◌∷◌, ◌++◌, length, reverse, inl, inr, refl, sym, ◌∙◌, subst, arith}
use Rattle.std.specs.Prelude.{All}
use Rattle.std.proofs.lemmas.Bool.{eqb-false, eqb-true, eq-eqb, ne_eqb, cases_Bool, cases_eq}
use Rattle.std.proofs.lemmas.List.Elements.{All-cons, All-nil}
use Rattle.bx_cnf.specs.Literals.{Literal}
use Rattle.bx_search.specs.States.{Assigned}
use Rattle.bx_search.specs.Learning.{Treated, variables, reason_variables, is_marked, any_marked_of, is_replaced, treated, treated_from, of_level}

-- a property of what a walk keeps, from what each treatment of its first literal gives
pub by_treatment : (P : Treated → Type 0) (marked replaced : Bool) (x y z : Treated) → (marked ≡ true → replaced ≡ true → P x) → (marked ≡ true → replaced ≡ false → P y) → (marked ≡ false → P z)
    → P (if marked then (if replaced then x else y) else z)
by_treatment P true true x y z px py pz = px refl refl
by_treatment P true false x y z px py pz = py refl refl
by_treatment P false replaced x y z px py pz = pz refl

pub or-false : (a b : Bool) → (a || b) ≡ false → (a ≡ false) × (b ≡ false)
or-false true b e = absurd (no e) where
  no : true ≡ false → ⊥
  no h = cc
or-false false b e = (refl, e)

-- a literal that is kept isn't of level 0
above_0 : (current : ℕ) (marked : List ℕ) (before : List Assigned) (a : Assigned) → is_replaced current marked before a ≡ false → 0 < a.level
above_0 current marked before a e =
    let other : a.level ≢ 0 = eqb-false a.level 0 (or-false (a.level == 0) _ e).0 in omega (arith, other)

abbrev IsAbove0 : Assigned → Type 0
IsAbove0 a = 0 < a.level

kept-above_0 : (clauses : List (List Literal)) (current : ℕ) (marked : List ℕ) (trail : List Assigned) → All IsAbove0 (treated clauses current marked trail).kept
kept-above_0 clauses current marked [] = All-nil IsAbove0
kept-above_0 clauses current marked (a ∷ before) =
    by_treatment (λ t. All IsAbove0 t.kept) (is_marked marked a) (is_replaced current marked before a) _ _ _
    (λ m r. kept-above_0 clauses current (marked ++ reason_variables clauses a.reason) before)
    (λ m e. All-cons IsAbove0 a _ (above_0 current marked before a e) (kept-above_0 clauses current marked before))
    (λ m. kept-above_0 clauses current marked before)

pub nothing_of_level_0 : (clauses : List (List Literal)) (trail : List Assigned) (id : ℕ) → All (λ a. 0 < a.level) (treated_from clauses trail id).kept
nothing_of_level_0 clauses trail id = kept-above_0 clauses _ (variables clauses id) (reverse trail)

-- literals that stand one before the other, the last first, on levels that don't rise above this one
abbrev pub Falls : ℕ → List Assigned → Type 0
Falls level [] = Unit {0}
Falls level (a ∷ before) = (a.level ≤ level) × Falls a.level before

pub falls-weaker : (low high : ℕ) (trail : List Assigned) → low ≤ high → Falls low trail → Falls high trail
falls-weaker low high [] l f = tt
falls-weaker low high (a ∷ before) l f = (omega (arith, f.0, l), f.1)

-- what has no literal of a level
abbrev HasNone : ℕ → List Assigned → Type 0
HasNone level trail = of_level level trail ≡ []

none-cons : (level : ℕ) (a : Assigned) (trail : List Assigned) → a.level ≢ level → HasNone level trail → HasNone level (a ∷ trail)
none-cons level a trail other none = rw (ne_eqb a.level level other) none

-- below the level nothing of it is kept
kept-below : (clauses : List (List Literal)) (current top : ℕ) (marked : List ℕ) (trail : List Assigned) → Falls top trail → top < current
    → HasNone current (treated clauses current marked trail).kept
kept-below clauses current top marked [] f l = refl
kept-below clauses current top marked (a ∷ before) f l =
    by_treatment (λ t. HasNone current t.kept) (is_marked marked a) (is_replaced current marked before a) _ _ _
    (λ m r. kept-below clauses current a.level (marked ++ reason_variables clauses a.reason) before f.1 (omega (arith, f.0, l)))
    (λ m e. none-cons current a (treated clauses current marked before).kept (λ same. omega (arith, f.0, l, same)) (kept-below clauses current a.level marked before f.1 (omega (arith, f.0, l))))
    (λ m. kept-below clauses current a.level marked before f.1 (omega (arith, f.0, l)))

and-false : (a b : Bool) → b ≡ true → (a && b) ≡ false → a ≡ false
and-false true b e h = sym e ∙ h
and-false false b e h = refl

and-right : (a b : Bool) → a ≡ true → (a && b) ≡ false → b ≡ false
and-right true b e h = h
and-right false b e h = absurd (no e) where
  no : false ≡ true → ⊥
  no h = cc

or-left : (a b c : Bool) → b ≡ false → (a || (b && c)) ≡ true → a ≡ true
or-left true b c e h = refl
or-left false true c e h = absurd (no e) where
  no : true ≡ false → ⊥
  no h = cc
or-left false false c e h = h

-- where none of the level is marked, none of it is kept
kept-none : (clauses : List (List Literal)) (current top : ℕ) (marked : List ℕ) (trail : List Assigned) → 0 < current → Falls top trail → any_marked_of current marked trail ≡ false
    → HasNone current (treated clauses current marked trail).kept
kept-none clauses current top marked [] above f none = refl
kept-none clauses current top marked (a ∷ before) above f none =
    let parts = or-false ((a.level == current) && is_marked marked a) (any_marked_of current marked before) none in
    let rest = kept-none clauses current a.level marked before above f.1 parts.1 in
    treat parts.0 rest
  where
    treat : ((a.level == current) && is_marked marked a) ≡ false → HasNone current (treated clauses current marked before).kept → HasNone current (treated clauses current marked (a ∷ before)).kept
    treat unmarked rest = elim (cases_Bool (is_marked marked a)) [
      | inl m ↦
          let other : a.level ≢ current = eqb-false a.level current (and-false (a.level == current) (is_marked marked a) m unmarked) in
          elim (cases_Bool (is_replaced current marked before a)) [
            | inl r ↦ rw (m, r) (kept-below clauses current a.level (marked ++ reason_variables clauses a.reason) before f.1 (low other r))
            | inr r ↦ rw (m, r) (none-cons current a _ other rest)
          ]
      | inr m ↦ rw m rest
    ] where
      low : a.level ≢ current → is_replaced current marked before a ≡ true → a.level < current
      low other r =
          let zero_level : a.level ≡ 0 = eqb-true a.level 0 (or-left (a.level == 0) (a.level == current) _ (ne_eqb a.level current other) r) in
          omega (arith, above, zero_level)

-- at most one literal of the current level is kept, if this isn't 0
kept-one : (clauses : List (List Literal)) (current top : ℕ) (marked : List ℕ) (trail : List Assigned) → 0 < current → Falls top trail
    → length (of_level current (treated clauses current marked trail).kept) ≤ 1
kept-one clauses current top marked [] above f = omega arith
kept-one clauses current top marked (a ∷ before) above f =
    by_treatment (λ t. length (of_level current t.kept) ≤ 1) (is_marked marked a) (is_replaced current marked before a) _ _ _
    (λ m r. kept-one clauses current a.level (marked ++ reason_variables clauses a.reason) before above f.1)
    (λ m e. elim (cases_eq a.level current) [
      | inl same ↦
          let level : (a.level == current) ≡ true = eq-eqb a.level current same in
          let none : any_marked_of current marked before ≡ false = and-right (a.level == current) _ level (or-false (a.level == 0) _ e).1 in
          rw (level, kept-none clauses current a.level marked before above f.1 none) (omega arith)
      | inr other ↦ rw (ne_eqb a.level current other) (kept-one clauses current a.level marked before above f.1)
    ])
    (λ m. kept-one clauses current a.level marked before above f.1)

-- and none if it is 0
kept-none_of_0 : (clauses : List (List Literal)) (current : ℕ) (marked : List ℕ) (trail : List Assigned) → HasNone 0 (treated clauses current marked trail).kept
kept-none_of_0 clauses current marked [] = refl
kept-none_of_0 clauses current marked (a ∷ before) =
    by_treatment (λ t. HasNone 0 t.kept) (is_marked marked a) (is_replaced current marked before a) _ _ _
    (λ m r. kept-none_of_0 clauses current (marked ++ reason_variables clauses a.reason) before)
    (λ m e. none-cons 0 a (treated clauses current marked before).kept (λ same. omega (arith, above_0 current marked before a e, same)) (kept-none_of_0 clauses current marked before))
    (λ m. kept-none_of_0 clauses current marked before)

pub one_of_the_level : (clauses : List (List Literal)) (current top : ℕ) (marked : List ℕ) (trail : List Assigned) → Falls top trail
    → length (of_level current (treated clauses current marked trail).kept) ≤ 1
one_of_the_level clauses current top marked trail f = elim (cases_eq current 0) [
  | inl same ↦ subst (λ level. length (of_level level (treated clauses current marked trail).kept) ≤ 1) (sym same) (none_fits (kept-none_of_0 clauses current marked trail))
  | inr other ↦ kept-one clauses current top marked trail (omega (arith, other)) f
] where
  none_fits : HasNone 0 (treated clauses current marked trail).kept → length (of_level 0 (treated clauses current marked trail).kept) ≤ 1
  none_fits none = rw none (omega arith)
