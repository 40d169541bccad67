-- When a clause becomes active: only where a literal that it watches became false.
use Rattle.std.proofs.Common.{◌≡◌, ◌≢◌, ℕ, zero, suc, ◌<◌, List, [], ◌∷◌, ◌++◌, length, get_or, take, slice_get, Some, refl, sym, ◌∙◌, subst, inl, inr, ◌⊎◌, arith}
use Rattle.std.specs.Prelude.{Contains}
use Rattle.std.proofs.lemmas.List.{get_or_default}
use Rattle.std.proofs.lemmas.List.Elements.{All-contains, All-from_get_or, Contains-append_left}
use Rattle.bx_cnf.specs.Literals.{Literal, negated}
use Rattle.bx_cnf.specs.Formulas.{IsClause}
use Rattle.bx_cnf.specs.Assignments.{IsFalse, IsActive}
use Rattle.bx_watch.specs.declared.watches.Pair.{Pair}
use Rattle.bx_watch.specs.Watching.{AreApart}
use Rattle.bx_watch.specs.Watches.{IsOf, OthersFail, SomeHolds, IsWatching}
use Rattle.bx_watch.proofs.Trails.{never_both}
use Rattle.bx_watch.proofs.ClauseReads.{contains-at, get-front, get-push, left_or_false, blocked-inactive}
use Rattle.bx_watch.proofs.Lits.{lit-eq, negated-back, dec-contains, dec-of, place-of, take-has, take-push, take-whole, within-get, one-place}

-- x and y are the two of a pair
abbrev pub AreTwo : Pair → Literal → Literal → Type 0
AreTwo pair x y = ((x ≡ pair.first) × (y ≡ pair.second)) ⊎ ((x ≡ pair.second) × (y ≡ pair.first))

two-of : (pair : Pair) (x y m : Literal) → AreTwo pair x y → IsOf pair m → (m ≡ x) ⊎ (m ≡ y)
two-of pair x y m (inl two) (inl e) = inl (e ∙ sym two.0)
two-of pair x y m (inl two) (inr e) = inr (e ∙ sym two.1)
two-of pair x y m (inr two) (inl e) = inr (e ∙ sym two.1)
two-of pair x y m (inr two) (inr e) = inl (e ∙ sym two.0)

-- an active clause of two watches: one is false, and all but the two were so then, and the other isn't true
pub record IsShaped (trail clause : List Literal) (pair : Pair) : Type 0 where
  pub x : Literal
  pub y : Literal
  pub two : AreTwo pair x y
  pub place : ℕ
  pub stands : slice_get trail place ≡ Some (negated x)
  pub not_true : Contains trail y → ⊥
  pub others : OthersFail (take place trail) clause pair

first-of : (pair : Pair) (x y : Literal) → AreTwo pair x y → IsOf pair x
first-of pair x y (inl two) = inl two.0
first-of pair x y (inr two) = inr two.0

second-of : (pair : Pair) (x y : Literal) → AreTwo pair x y → IsOf pair y
second-of pair x y (inl two) = inr two.1
second-of pair x y (inr two) = inl two.1

shape-from : (trail clause : List Literal) (pair : Pair) (x y : Literal) → AreApart trail → IsWatching trail clause pair → IsActive trail clause
    → AreTwo pair x y → IsFalse trail x → (Contains trail y → ⊥) → IsShaped trail clause pair
shape-from trail clause pair x y apart w active two fails not_true =
    let (i, at) = place-of trail (negated x) fails in
    elim (w.guarded i x (first-of pair x y two) at) [
      | inl others ↦ record { x = x; y = y; two = two; place = i; stands = at; not_true = not_true; others = others }
      | inr some ↦ absurd (blocked-inactive trail clause apart (inl (some.0, some.1, take-has trail i some.0 some.2)) active)
    ]

pub shape : (trail clause : List Literal) (pair : Pair) → AreApart trail → IsWatching trail clause pair → pair.first ≢ pair.second → IsActive trail clause → IsShaped trail clause pair
shape trail clause pair apart w differ (inl fails) =
    let first : IsFalse trail pair.first = All-contains (IsFalse trail) clause pair.first fails (w.has pair.first (inl refl)) in
    let second : IsFalse trail pair.second = All-contains (IsFalse trail) clause pair.second fails (w.has pair.second (inr refl)) in
    shape-from trail clause pair pair.first pair.second apart w (inl fails) (inl (refl, refl)) first (λ holds. never_both trail pair.second apart holds second)
shape trail clause pair apart w differ (inr (u, unit)) = elim (left_or_false trail clause u pair.first unit.0 (w.has pair.first (inl refl))) [
  | inl same ↦ elim (left_or_false trail clause u pair.second unit.0 (w.has pair.second (inr refl))) [
    | inl too ↦ absurd (differ (sym same ∙ too))
    | inr fails ↦ shape-from trail clause pair pair.second pair.first apart w (inr (u, unit)) (inr (refl, refl)) fails (λ holds. unit.1.0 (subst (Contains trail) (sym same) holds))
  ]
  | inr fails ↦ shape-from trail clause pair pair.first pair.second apart w (inr (u, unit)) (inl (refl, refl)) fails
      (elim (left_or_false trail clause u pair.second unit.0 (w.has pair.second (inr refl))) [
        | inl same ↦ λ holds. unit.1.0 (subst (Contains trail) (sym same) holds)
        | inr too ↦ λ holds. never_both trail pair.second apart holds too
      ])
]

-- where one watch is false, the other not true, and all else false, a clause is active
pub active-from : (vars : ℕ) (trail clause : List Literal) (pair : Pair) (x y : Literal) → IsClause vars clause → AreTwo pair x y → Contains clause y
    → IsFalse trail x → (Contains trail y → ⊥) → OthersFail trail clause pair → IsActive trail clause
active-from vars trail clause pair x y is two has fails not_true others = elim (dec-contains trail (negated y)) [
  | inl too ↦ inl (All-from_get_or (IsFalse trail) clause y (λ i below. each too (get_or clause i y) (i, below, get_or_default clause i _ y below)))
  | inr isnt ↦
      let (k, at) = place-of clause y has in
      inr (
        y,
        (
          record {
            place = k;
            stands = at;
            this = isnt;
            others = λ j m at_j apart. elim (lit-eq m y) [
              | inl same ↦ absurd (one-place vars clause j k y is (subst (λ (z : Literal). slice_get clause j ≡ Some z) same at_j) at apart)
              | inr differ ↦ rest-of m (contains-at clause j m at_j) differ
            ];
          },
          (not_true, isnt),
        ),
      )
] where
  rest-of : (m : Literal) → Contains clause m → m ≢ y → IsFalse trail m
  rest-of m in_clause differ = elim (dec-of pair m) [
    | inl of ↦ elim (two-of pair x y m two of) [ inl same ↦ subst (IsFalse trail) (sym same) fails | inr same ↦ absurd (differ same) ]
    | inr none ↦ others m in_clause none
  ]

  each : IsFalse trail y → (m : Literal) → Contains clause m → IsFalse trail m
  each too m in_clause = elim (lit-eq m y) [ inl same ↦ subst (IsFalse trail) (sym same) too | inr differ ↦ rest-of m in_clause differ ]

-- a clause of one literal
single-not_true : (trail : List Literal) (p : Literal) → AreApart trail → IsActive trail (p ∷ []) → Contains trail p → ⊥
single-not_true trail p apart active holds = blocked-inactive trail (p ∷ []) apart (inl (p, (0, omega arith, refl), holds)) active

single-active : (trail : List Literal) (p : Literal) → (Contains trail p → ⊥) → IsActive trail (p ∷ [])
single-active trail p not_true = elim (dec-contains trail (negated p)) [
  | inl fails ↦ inl (All-from_get_or (IsFalse trail) (p ∷ []) p (λ i below. at i fails below))
  | inr isnt ↦ inr (
    p,
    (
      record {
        place = 0;
        stands = refl;
        this = isnt;
        others = λ k m at apart. absurd (apart (omega (arith, within-get (p ∷ []) k m at)));
      },
      (not_true, isnt),
    ),
  )
] where
  at : (i : ℕ) → IsFalse trail p → i < length (p ∷ []) → IsFalse trail (get_or (p ∷ []) i p)
  at zero fails below = fails
  at (suc i) fails below = absurd (omega (arith, below))

-- one literal more in the trail: what was watched is watched, if the clauses that watch its negation are guarded
pub IsWatching-push : (trail clause : List Literal) (pair : Pair) (l : Literal) → IsWatching trail clause pair
    → (IsOf pair (negated l) → OthersFail trail clause pair ⊎ SomeHolds trail clause) → IsWatching (trail ++ l ∷ []) clause pair
IsWatching-push trail clause pair l w here = record {
  has = w.has;
  alone = w.alone;
  guarded = λ i x of at. elim (get-push trail l i (negated x) at) [
    | inl before ↦ subst (λ (t : List Literal). OthersFail t clause pair ⊎ SomeHolds t clause) (sym (take-push trail l i (omega (arith, within-get trail i (negated x) before)))) (w.guarded i x of before)
    | inr last ↦ subst (λ (t : List Literal). OthersFail t clause pair ⊎ SomeHolds t clause) (sym (take-whole trail l i last.0)) (here (subst (IsOf pair) (negated-back l x last.1) of))
  ];
}

pub IsWatching-pop : (trail clause : List Literal) (pair : Pair) (l : Literal) → IsWatching (trail ++ l ∷ []) clause pair → IsWatching trail clause pair
IsWatching-pop trail clause pair l w = record {
  has = w.has;
  alone = w.alone;
  guarded = λ i x of at. subst (λ (t : List Literal). OthersFail t clause pair ⊎ SomeHolds t clause) (take-push trail l i (omega (arith, within-get trail i (negated x) at)))
      (w.guarded i x of (get-front trail i (negated x) l at));
}

-- a clause that is active with one literal more, and doesn't watch its negation, was active
pub was-active : (vars : ℕ) (trail clause : List Literal) (pair : Pair) (l : Literal) → IsClause vars clause → AreApart (trail ++ l ∷ []) → IsWatching trail clause pair
    → (IsOf pair (negated l) → ⊥) → IsActive (trail ++ l ∷ []) clause → IsActive trail clause
was-active vars trail clause pair l is apart w none active = elim (lit-eq pair.first pair.second) [
  | inl same ↦
      let one = w.alone same in
      subst (IsActive trail) (sym one) (single-active trail pair.first (λ holds. single-not_true (trail ++ l ∷ []) pair.first apart (subst (IsActive (trail ++ l ∷ [])) one active) (Contains-append_left trail (l ∷ []) pair.first holds)))
  | inr differ ↦
      let s = shape (trail ++ l ∷ []) clause pair apart (IsWatching-push trail clause pair l w (λ of. absurd (none of))) differ active in
      elim (get-push trail l s.place (negated s.x) s.stands) [
        | inl before ↦
            let same = take-push trail l s.place (omega (arith, within-get trail s.place (negated s.x) before)) in
            active-from vars trail clause pair s.x s.y is s.two (w.has s.y (second-of pair s.x s.y s.two)) (contains-at trail s.place (negated s.x) before)
            (λ holds. s.not_true (Contains-append_left trail (l ∷ []) s.y holds))
            (λ m has isnt. take-has trail s.place (negated m) (subst (λ (t : List Literal). IsFalse t m) same (s.others m has isnt)))
        | inr last ↦ absurd (none (subst (IsOf pair) (negated-back l s.x last.1) (first-of pair s.x s.y s.two)))
      ]
]
