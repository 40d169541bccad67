-- What stands behind each literal of a trail: the clause that left it when it was assigned, or a decision,
-- which is the first of its level. Trails are looked at from their end here.
use Rattle.std.proofs.Common.{◌≡◌, ◌≢◌, ℕ, zero, suc, ◌-◌, ◌<◌, ◌≤◌, inl, inr, Bool, true, false, not, ◌==◌, ◌&&◌, ◌||◌, cond, List, [], ◌∷◌, ◌++◌, filter, reverse, Option, Some, None, slice_get, refl, sym, ◌∙◌, ap, subst, arith}
use mathlib.Core.List.{reverse_aux}
use Rattle.std.specs.Prelude.{nat_le}
use Rattle.std.specs.List.{AllByRecursion}
use Rattle.std.proofs.lemmas.Bool.{eqb-true, ne_eqb, cases_Bool}
use Rattle.bx_logic.proofs.Members.{Member, Member-map_cases, member_of_AllByRecursion}
use Rattle.bx_cnf.specs.Literals.{Literal, negated}
use Rattle.bx_search.specs.States.{Assigned, literals_of}
use Rattle.bx_search.specs.Learning.{any_marked_of, is_replaced}
use Rattle.bx_search.proofs.Kept.{Falls}

-- The clause of this number left this literal: all its other literals are false under those before.
pub record IsReason (clauses : List (List Literal)) (before : List Assigned) (l : Literal) (id : ℕ) : Type 0 where
  pub clause : List Literal
  pub above : 0 < id
  pub stands : slice_get clauses (id - 1) ≡ Some clause
  pub place : ℕ
  pub here : slice_get clause place ≡ Some l
  pub others : (k : ℕ) (m : Literal) → slice_get clause k ≡ Some m → k ≢ place → Member (negated m) (literals_of before)

abbrev pub IsBacked : List (List Literal) → List Assigned → Literal → ℕ → Option ℕ → Type 0
IsBacked clauses before l level None = (0 < level) × AllByRecursion (λ (b : Assigned). b.level < level) before
IsBacked clauses before l level (Some id) = IsReason clauses before l id

-- none of those before is over the variable
abbrev pub IsNew : Literal → List Assigned → Type 0
IsNew l before = AllByRecursion (λ (b : Assigned). b.literal.var ≢ l.var) before

abbrev pub AreBacked : List (List Literal) → List Assigned → Type 0
AreBacked clauses [] = Unit {0}
AreBacked clauses (a ∷ before) = IsBacked clauses before a.literal a.level a.reason × IsNew a.literal before × AreBacked clauses before

-- a literal and its negation don't both stand on it
no_negation : (b : Bool) → b ≡ not b → ⊥
no_negation true e = cc
no_negation false e = cc

same-var : (clauses : List (List Literal)) (trail : List Assigned) (a b : Assigned) → AreBacked clauses trail → Member a trail → Member b trail → a.literal.var ≡ b.literal.var → a.literal ≡ b.literal
same-var clauses [] a b backed h k e = absurd h
same-var clauses (c ∷ before) a b backed (inl x) (inl y) e = ap (λ (z : Assigned). z.literal) (sym x ∙ y)
same-var clauses (c ∷ before) a b backed (inl x) (inr k) e =
    absurd (member_of_AllByRecursion (λ (z : Assigned). z.literal.var ≢ c.literal.var) b before backed.1 k (sym e ∙ ap (λ (z : Assigned). z.literal.var) (sym x)))
same-var clauses (c ∷ before) a b backed (inr h) (inl y) e =
    absurd (member_of_AllByRecursion (λ (z : Assigned). z.literal.var ≢ c.literal.var) a before backed.1 h (e ∙ ap (λ (z : Assigned). z.literal.var) (sym y)))
same-var clauses (c ∷ before) a b backed (inr h) (inr k) e = same-var clauses before a b backed.2 h k e

abbrev pub IsConsistent : List Assigned → Type 0
IsConsistent trail = (l : Literal) → Member l (literals_of trail) → Member (negated l) (literals_of trail) → ⊥

pub consistent : (clauses : List (List Literal)) (trail : List Assigned) → AreBacked clauses trail → IsConsistent trail
consistent clauses trail backed l h k =
    let (a, in_a, is_a) = Member-map_cases (λ (z : Assigned). z.literal) l trail h in
    let (b, in_b, is_b) = Member-map_cases (λ (z : Assigned). z.literal) (negated l) trail k in
    let same = same-var clauses trail a b backed in_a in_b (ap (λ (z : Literal). z.var) is_a ∙ sym (ap (λ (z : Literal). z.var) is_b)) in
    no_negation l.positive (ap (λ (z : Literal). z.positive) (sym is_a ∙ same ∙ is_b))

-- a literal that is replaced has a reason
below-unmarked : (level : ℕ) (marked : List ℕ) (trail : List Assigned) → AllByRecursion (λ (b : Assigned). b.level < level) trail → any_marked_of level marked trail ≡ false
below-unmarked level marked [] below = refl
below-unmarked level marked (a ∷ trail) below =
    rw (ne_eqb a.level level (λ e. omega (arith, below.0, e))) (below-unmarked level marked trail below.1)

and-both : (a b : Bool) → (a && b) ≡ true → (a ≡ true) × (b ≡ true)
and-both true b e = (refl, e)
and-both false b e = absurd (no e) where
  no : false ≡ true → ⊥
  no h = cc

or-right : (a b : Bool) → a ≡ false → (a || b) ≡ true → b ≡ true
or-right true b e h = absurd (no e) where
  no : true ≡ false → ⊥
  no h = cc
or-right false b e h = h

true-false : (b : Bool) → b ≡ true → b ≡ false → ⊥
true-false b t f = no (sym t ∙ f) where
  no : true ≡ false → ⊥
  no h = cc

eqb-is : (a b : ℕ) → (a == b) ≡ true → a ≡ b
eqb-is = eqb-true

pub replaced-reason : (current : ℕ) (marked : List ℕ) (before : List Assigned) (a : Assigned) → 0 < a.level → AllByRecursion (λ (b : Assigned). b.level < a.level) before
    → is_replaced current marked before a ≡ true → ⊥
replaced-reason current marked before a above below r =
    let parts = and-both (a.level == current) (any_marked_of current marked before) (or-right (a.level == 0) _ (ne_eqb a.level 0 (λ e. omega (arith, above, e))) r) in
    let same : a.level ≡ current = eqb-is a.level current parts.0 in
    true-false (any_marked_of current marked before) parts.1 (below-unmarked current marked before (subst (λ level. AllByRecursion (λ (b : Assigned). b.level < level) before) same below))

-- clauses may be added
stays : {X : Type 0} (xs ys : List X) (k : ℕ) (x : X) → slice_get xs k ≡ Some x → slice_get (xs ++ ys) k ≡ Some x
stays {X} [] ys k x e = absurd (no x e) where
  no : (y : X) → None ≡ Some y → ⊥
  no y h = cc
stays (z ∷ xs) ys zero x e = e
stays (z ∷ xs) ys (suc k) x e = stays xs ys k x e

more-backed : (clauses added : List (List Literal)) (before : List Assigned) (l : Literal) (level : ℕ) (reason : Option ℕ) → IsBacked clauses before l level reason → IsBacked (clauses ++ added) before l level reason
more-backed clauses added before l level None b = b
more-backed clauses added before l level (Some id) b = record {
  clause = b.clause;
  above = b.above;
  stands = stays clauses added (id - 1) b.clause b.stands;
  place = b.place;
  here = b.here;
  others = b.others;
}

pub backed-more : (clauses added : List (List Literal)) (trail : List Assigned) → AreBacked clauses trail → AreBacked (clauses ++ added) trail
backed-more clauses added [] b = tt
backed-more clauses added (a ∷ before) b = (more-backed clauses added before a.literal a.level a.reason b.0, b.1, backed-more clauses added before b.2)

-- what stands above a level may be taken off
abbrev within : ℕ → Assigned → Bool
within level a = nat_le a.level level

low-all : (level top : ℕ) (trail : List Assigned) → Falls top trail → top ≤ level → filter (within level) trail ≡ trail
low-all level top [] f l = refl
low-all level top (a ∷ before) f l =
    let low : a.level ≤ level = omega (arith, f.0, l) in
    rw (le-true a.level level low) (ap (λ zs. a ∷ zs) (low-all level a.level before f.1 low)) where
      le-true : (m n : ℕ) → m ≤ n → nat_le m n ≡ true
      le-true m n h = grind (arith, h)

le-is : (m n : ℕ) → nat_le m n ≡ true → m ≤ n
le-is m n e = grind (arith, e)

backed-low : (clauses : List (List Literal)) (level top : ℕ) (trail : List Assigned) → Falls top trail → AreBacked clauses trail → AreBacked clauses (filter (within level) trail)
backed-low clauses level top [] f b = tt
backed-low clauses level top (a ∷ before) f b = elim (cases_Bool (within level a)) [
  | inl t ↦ rw t (rw (low-all level a.level before f.1 (le-is a.level level t)) b)
  | inr n ↦ rw n (backed-low clauses level a.level before f.1 b.2)
]

filter-reversed : (keep : Assigned → Bool) (trail behind : List Assigned) → filter keep (reverse_aux trail behind) ≡ reverse_aux (filter keep trail) (filter keep behind)
filter-reversed keep [] behind = refl
filter-reversed keep (a ∷ trail) behind = filter-reversed keep trail (a ∷ behind) ∙ kept (keep a) where
  kept : (b : Bool) → reverse_aux (filter keep trail) (cond b (a ∷ filter keep behind) (filter keep behind)) ≡ reverse_aux (cond b (a ∷ filter keep trail) (filter keep trail)) (filter keep behind)
  kept true = refl
  kept false = refl

pub backed-up_to : (clauses : List (List Literal)) (level top : ℕ) (trail : List Assigned) → Falls top (reverse trail) → AreBacked clauses (reverse trail) → AreBacked clauses (reverse (filter (λ a. nat_le a.level level) trail))
backed-up_to clauses level top trail f b = subst (AreBacked clauses) (filter-reversed (within level) trail []) (backed-low clauses level top (reverse trail) f b)
