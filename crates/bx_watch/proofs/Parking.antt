-- A clause that is active under a front of the trail is in the set, or parked at a literal behind that: what each
-- event makes of this.
use Rattle.std.proofs.Common.{◌≡◌, ℕ, ◌*◌, ◌<◌, Bool, true, false, List, [], ◌∷◌, ◌++◌, length, get_or, refl, sym, ◌∙◌, ap, subst, inl, inr, ◌⊎◌, arith}
use Rattle.std.specs.Prelude.{Contains}
use Rattle.std.proofs.lemmas.Bool.{cases_eq}
use Rattle.std.proofs.lemmas.List.{append-nil, append_assoc, length_push}
use Rattle.std.proofs.lemmas.List.Elements.{Contains-append_left, Contains-append_cases, Contains-push_cases}
use Rattle.bx_cnf.specs.Literals.{Literal, negated}
use Rattle.bx_cnf.specs.Formulas.{Formula}
use Rattle.bx_cnf.specs.Assignments.{IsFalse, IsActive}
use Rattle.bx_least_set.specs.Numbers.{has}
use Rattle.bx_watch.specs.declared.lists.Entry.{Entry}
use Rattle.bx_watch.specs.declared.reading.Reading.{Reading}
use Rattle.bx_watch.specs.declared.reading.Reading.TheVariants.{False, Unit, Met, Other}
use Rattle.bx_watch.specs.Watching.{AreApart}
use Rattle.bx_watch.specs.Readings.{IsRead, LeavesTwo, is_open}
use Rattle.bx_watch.specs.Lists.{place, list_of, IsEmptyFor, Pushes, Clears}
use Rattle.bx_watch.specs.Keeping.{Tables, AreIn, AreParked, IsParked, MayWake, ArePending, IsMore, Parks, Releases}
use Rattle.bx_watch.proofs.Trails.{AreApart-front}
use Rattle.bx_watch.proofs.ClauseReads.{contains-at, blocked-inactive}
use Rattle.bx_watch.proofs.Attaching.{front-or-last}
use Rattle.bx_watch.proofs.Keeps.{pushes-keeps, pushes-cases, pushes-there}

contains-none : {X : Type 0} (x : X) → Contains [] x → ⊥
contains-none x (k, below, is) = omega (arith, below)

-- a trail that one literal was put behind ends with it, or its back is empty
snoc-cases : (trail front back : List Literal) (l : Literal) → trail ++ l ∷ [] ≡ front ++ back
    → ((back ≡ []) × (trail ++ l ∷ [] ≡ front)) ⊎ ((b : List Literal) × (back ≡ b ++ l ∷ []) × (trail ≡ front ++ b))
snoc-cases trail [] back l e = inr (trail, sym e, refl)
snoc-cases [] (x ∷ xs) back l e = inl (sym (end xs back (tail-same e)), e ∙ (ap (λ (ys : List Literal). x ∷ xs ++ ys) (sym (end xs back (tail-same e))) ∙ append-nil (x ∷ xs))) where
  tail-same : l ∷ [] ≡ x ∷ (xs ++ back) → [] ≡ xs ++ back
  tail-same same = cc

  end : (xs back : List Literal) → [] ≡ xs ++ back → [] ≡ back
  end [] back same = same
  end (y ∷ ys) back same = absurd (omega (arith, ap length same))
snoc-cases (a ∷ as_) (x ∷ xs) back l e = elim (snoc-cases as_ xs back l (tail e)) [
  | inl none ↦ inl (none.0, ap (λ (ys : List Literal). a ∷ ys) none.1 ∙ ap (λ (y : Literal). y ∷ xs) (head e))
  | inr (b, back_is, front_is) ↦ inr (b, back_is, ap (λ (ys : List Literal). a ∷ ys) front_is ∙ ap (λ (y : Literal). y ∷ (xs ++ b)) (head e))
] where
  head : a ∷ (as_ ++ l ∷ []) ≡ x ∷ (xs ++ back) → a ≡ x
  head same = cc

  tail : a ∷ (as_ ++ l ∷ []) ≡ x ∷ (xs ++ back) → as_ ++ l ∷ [] ≡ xs ++ back
  tail same = cc

-- a clause of which two literals aren't false is active under no front of the trail
pub two-inactive : (trail front back clause : List Literal) → AreApart trail → trail ≡ front ++ back → LeavesTwo trail clause → IsActive front clause → ⊥
two-inactive trail front back clause apart split (l, m, has_l, has_m, differ, isnt_l, isnt_m) active =
    blocked-inactive front clause (AreApart-front front back (subst AreApart split apart)) (inr (l, m, has_l, has_m, differ, (λ fails. isnt_l (whole l fails)), (λ fails. isnt_m (whole m fails)))) active where
      whole : (x : Literal) → IsFalse front x → IsFalse trail x
      whole x fails = subst (λ (t : List Literal). IsFalse t x) (sym split) (Contains-append_left front back (negated x) fails)

-- a clause with a true literal is active under no front of the trail that has it
pub true-inactive : (trail front back clause : List Literal) (l : Literal) → AreApart trail → trail ≡ front ++ back → Contains clause l → Contains front l → IsActive front clause → ⊥
true-inactive trail front back clause l apart split has holds active = blocked-inactive front clause (AreApart-front front back (subst AreApart split apart)) (inl (l, has, holds)) active

-- so it is with clauses that were never active under a front
pub other-asleep : (trail clause : List Literal) → AreApart trail → LeavesTwo trail clause → MayWake trail clause → ⊥
other-asleep trail clause apart two (front, back, split, active) = two-inactive trail front back clause apart split two active

pub wakes-now : (trail clause : List Literal) → IsActive trail clause → MayWake trail clause
wakes-now trail clause active = (trail, [], sym (append-nil trail), active)

-- each clause that is active now is in the set
pub pending-now : (f : Formula) (trail : List Literal) (pending : List Bool) (parked : List (List Entry)) → ArePending f trail pending parked → AreIn f trail pending
pending-now f trail pending parked are k clause at active = elim (are trail [] k clause (sym (append-nil trail)) at active) [
  | inl there ↦ there
  | inr (l, has, listed) ↦ absurd (contains-none l has)
]

-- where nothing is assigned, no clause will be active that isn't
pub pending-start : (f : Formula) (trail : List Literal) (pending : List Bool) (parked : List (List Entry)) → trail ≡ [] → AreIn f trail pending → ArePending f trail pending parked
pending-start f trail pending parked none are front back k clause split at active = inl (are k clause at (subst (λ (t : List Literal). IsActive t clause) (empty front back (sym none ∙ split) ∙ sym none) active)) where
  empty : (front back : List Literal) → [] ≡ front ++ back → front ≡ []
  empty [] back e = refl
  empty (x ∷ xs) back e = absurd (omega (arith, ap length e))

pub parked-none : (f : Formula) (parked : List (List Entry)) → IsEmptyFor (2 * f.vars) parked → AreParked f parked
parked-none f parked empty = record {
  sized = empty.sized;
  within = λ l entry listed. absurd (contains-none entry (subst (λ (es : List Entry). Contains es entry) (empty.none l) listed));
}

-- a literal is assigned
pub pending-pushed : (f : Formula) (trail : List Literal) (old new : List Bool) (parked : List (List Entry)) (l : Literal) → ArePending f trail old parked → IsMore old new → AreIn f (trail ++ l ∷ []) new
    → ArePending f (trail ++ l ∷ []) new parked
pending-pushed f trail old new parked l were more now front back k clause split at active = elim (snoc-cases trail front back l split) [
  | inl (back_is, front_is) ↦ inl (now k clause at (subst (λ (t : List Literal). IsActive t clause) (sym front_is) active))
  | inr (b, back_is, trail_is) ↦ elim (were front b k clause trail_is at active) [
    | inl there ↦ inl (more.stays k there)
    | inr (m, has, listed) ↦ inr (m, subst (λ (t : List Literal). Contains t m) (sym back_is) (Contains-append_left b (l ∷ []) m has), listed)
  ]
]

-- the last literal is freed
pub pending-popped : (f : Formula) (trail : List Literal) (old new : Tables) (parked left : List (List Entry)) (l : Literal) → ArePending f (trail ++ l ∷ []) old.pending parked → Releases l old new parked left
    → ArePending f trail new.pending left
pending-popped f trail old new parked left l were releases front back k clause split at active = elim (were front (back ++ l ∷ []) k clause (ap (λ (t : List Literal). t ++ l ∷ []) split ∙ append_assoc front back (l ∷ [])) at active) [
  | inl there ↦ inl (releases.more.stays k there)
  | inr (m, has, (entry, listed, is)) ↦ elim (cases_eq (place m) (place l)) [
    | inl same ↦ inl (subst (λ (n : ℕ). has_in n) is (releases.woken entry (subst (λ (n : ℕ). Contains (get_or parked n []) entry) same listed)))
    | inr apart ↦ elim (Contains-push_cases back l m has) [
      | inl before ↦ inr (m, before, (entry, subst (λ (es : List Entry). Contains es entry) (sym (releases.clears.others m apart)) listed, is))
      | inr here ↦ absurd (apart (ap place (sym here)))
    ]
  ]
] where
  has_in : ℕ → Type 0
  has_in n = has new.pending n ≡ true

pub parked-left : (f : Formula) (parked left : List (List Entry)) (l : Literal) → AreParked f parked → Clears parked left l → AreParked f left
parked-left f parked left l are clears = record {
  sized = clears.sized ∙ are.sized;
  within = λ m entry listed. elim (cases_eq (place m) (place l)) [
    | inl same ↦ absurd (contains-none entry (subst (λ (es : List Entry). Contains es entry) (ap (λ (n : ℕ). get_or left n []) same ∙ clears.here) listed))
    | inr apart ↦ are.within m entry (subst (λ (es : List Entry). Contains es entry) (clears.others m apart) listed)
  ];
}

-- a clause is parked, or none
pub Parks-push : (old new : List (List Entry)) (l : Literal) (k : ℕ) (entry : Entry) → Pushes old new l entry → entry.clause ≡ k → Parks old new (Met l) k
Parks-push old new l k entry pushes is = record {
  sized = pushes.sized;
  stays = pushes-keeps old new l entry pushes;
  met = λ m e. (entry, subst (λ (x : Literal). Contains (list_of new x) entry) (one e) (pushes-there old new l entry pushes), is);
  none_other = λ m d listed. elim (pushes-cases old new l entry pushes m d listed) [ inl before ↦ inl before | inr here ↦ inr (ap (λ (x : Entry). x.clause) (sym here) ∙ is) ];
} where
  one : {m : Literal} → Met l ≡ Met m → l ≡ m
  one e = cc

pub Parks-none : (parked : List (List Entry)) (reading : Reading) (k : ℕ) → ((l : Literal) → reading ≡ Met l → ⊥) → Parks parked parked reading k
Parks-none parked reading k isnt = record {
  sized = refl;
  stays = λ l entry listed. listed;
  met = λ l is. absurd (isnt l is);
  none_other = λ l entry listed. inl listed;
}

-- the clause that was taken out of the set, and parked where it will be active again
pub parked-more : (f : Formula) (old new : List (List Entry)) (reading : Reading) (k : ℕ) → k < length f.clauses → AreParked f old → Parks old new reading k → AreParked f new
parked-more f old new reading k below are parks = record {
  sized = parks.sized ∙ are.sized;
  within = λ l entry listed. elim (parks.none_other l entry listed) [ inl before ↦ are.within l entry before | inr is ↦ subst (λ (n : ℕ). n < length f.clauses) (sym is) below ];
}

pub parked-stays : (old new : List (List Entry)) (reading : Reading) (k j : ℕ) (back : List Literal) → Parks old new reading k → IsParked old back j → IsParked new back j
parked-stays old new reading k j back parks (l, has, (entry, listed, is)) = (l, has, (entry, parks.stays l entry listed, is))

pub parked-asleep : (trail front back clause : List Literal) (parked new : List (List Entry)) (reading : Reading) (k : ℕ) → AreApart trail → IsRead trail clause reading → is_open reading ≡ false
    → Parks parked new reading k → trail ≡ front ++ back → IsActive front clause → IsParked new back k
parked-asleep trail front back clause parked new False k apart is closed parks split active = absurd (true_false closed) where
  true_false : true ≡ false → ⊥
  true_false e = cc
parked-asleep trail front back clause parked new (Unit l) k apart is closed parks split active = absurd (true_false closed) where
  true_false : true ≡ false → ⊥
  true_false e = cc
parked-asleep trail front back clause parked new (Met l) k apart is closed parks split active = elim (Contains-append_cases front back l (subst (λ (t : List Literal). Contains t l) split is.1)) [
  | inl early ↦ absurd (true-inactive trail front back clause l apart split (contains-at clause is.0.place l is.0.stands) early active)
  | inr late ↦ (l, late, parks.met l refl)
]
parked-asleep trail front back clause parked new Other k apart is closed parks split active = absurd (two-inactive trail front back clause apart split is active)

-- a clause is added behind the others
pub parked-added : (f : Formula) (c : List Literal) (parked : List (List Entry)) → AreParked f parked → AreParked (record f { clauses = f.clauses ++ c ∷ [] }) parked
parked-added f c parked are = record {
  sized = are.sized;
  within = λ l entry listed. omega (arith, are.within l entry listed, length_push f.clauses c);
}

pub pending-added : (f : Formula) (c : List Literal) (trail : List Literal) (old new : List Bool) (parked : List (List Entry)) → ArePending f trail old parked → ((k : ℕ) → has old k ≡ true → has new k ≡ true)
    → (MayWake trail c → has new (length f.clauses) ≡ true) → ArePending (record f { clauses = f.clauses ++ c ∷ [] }) trail new parked
pending-added f c trail old new parked were stays woken front back k clause split at active = elim (front-or-last f.clauses c k clause at) [
  | inl before ↦ elim (were front back k clause split before active) [ inl there ↦ inl (stays k there) | inr waits ↦ inr waits ]
  | inr last ↦ inl (subst (λ (n : ℕ). has new n ≡ true) (sym last.0) (woken (front, back, split, subst (IsActive front) (sym last.1) active)))
]
