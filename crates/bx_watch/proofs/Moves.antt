-- A clause watches another literal, and its entry leaves the list of the one before.
use Rattle.std.proofs.Common.{◌≡◌, ◌≢◌, ℕ, zero, suc, ◌+◌, ◌<◌, ◌≤◌, Bool, true, false, List, [], ◌∷◌, ◌++◌, length, get_or, set, take, slice_get, Some, Ok, Err, Result, IfOk, refl, sym, ◌∙◌, ap, subst, inl, inr, ◌⊎◌, arith, length-set}
use Rattle.std.specs.Prelude.{Contains}
use Rattle.std.proofs.lemmas.Bool.{cases_eq, cases_lt}
use Rattle.std.proofs.lemmas.Option.{slice_get_within, slice_get_cases}
use Rattle.std.proofs.lemmas.List.{take_more}
use Rattle.std.proofs.lemmas.List.Elements.{Contains-push_cases}
use Rattle.bx_cnf.specs.Literals.{Literal, negated}
use Rattle.bx_cnf.specs.Formulas.{Formula, IsFormula, IsClause}
use Rattle.bx_cnf.specs.Assignments.{IsFalse}
use Rattle.bx_least_set.specs.Numbers.{has}
use Rattle.bx_watch.specs.declared.lists.Entry.{Entry}
use Rattle.bx_watch.specs.declared.watches.Pair.{Pair}
use Rattle.bx_watch.specs.Watching.{IsOver}
use Rattle.bx_watch.specs.Lists.{place, list_of, HasEntry, Pushes, Drops}
use Rattle.bx_watch.specs.Watches.{IsOf, HasOther, OthersFail, IsWatching}
use Rattle.bx_watch.specs.Keeping.{Tables, IsListed, IsEntry, IsKept, IsMore, IsSettled, Visits, Falsifies}
use Rattle.bx_watch.proofs.ClauseReads.{contains-at}
use Rattle.bx_watch.proofs.Lits.{take-has}
use Rattle.bx_watch.proofs.Keeps.{one-at, get-set-same, get-set-other, All-at, at-of, over-in, place-apart, nonempty, IsMore-same, pushes-keeps, pushes-cases, pushes-there}

-- the other watch is one of the two
other-of : (pair : Pair) (l other : Literal) → HasOther pair l (Some other) → IsOf pair other
other-of pair l other (inl two) = inr two.1
other-of pair l other (inr two) = inl two.1

of-other : (pair : Pair) (l other : Literal) → HasOther pair l (Some other) → IsOf pair l
of-other pair l other (inl two) = inl two.0
of-other pair l other (inr two) = inr two.0

-- a literal of a clause that it doesn't watch stands beside two different watches
two-differ : (trail clause : List Literal) (pair : Pair) (l other m : Literal) → IsWatching trail clause pair → HasOther pair l (Some other) → Contains clause m → (IsOf pair m → ⊥) → l ≢ other
two-differ trail clause pair l other m w two in_clause isnt same = one (same_two two) where
  same_two : HasOther pair l (Some other) → pair.first ≡ pair.second
  same_two (inl t) = sym t.0 ∙ (same ∙ t.1)
  same_two (inr t) = sym t.1 ∙ (sym same ∙ t.0)

  one : pair.first ≡ pair.second → ⊥
  one e = alone (subst (λ (c : List Literal). Contains c m) (w.alone e) in_clause) where
    alone : Contains (pair.first ∷ []) m → ⊥
    alone (k, below, at) = isnt (inl (sym (at_zero k below at))) where
      at_zero : (k : ℕ) → k < length (pair.first ∷ []) → get_or (pair.first ∷ []) k m ≡ m → pair.first ≡ m
      at_zero zero below at = at
      at_zero (suc k) below at = absurd (omega (arith, below))

-- another literal, that isn't false, is watched in place of one that is about to be
pub record IsMoved (f : Formula) (trail : List Literal) (l other m : Literal) (k : ℕ) (clause : List Literal) (pair : Pair) (old new : Tables) : Type 0 where
  pub at : slice_get f.clauses k ≡ Some clause
  pub at_pair : slice_get old.pairs k ≡ Some pair
  pub two : HasOther pair l (Some other)
  pub in_clause : Contains clause m
  pub isnt : IsOf pair m → ⊥
  pub not_false : IsFalse trail m → ⊥
  pub pairs : new.pairs ≡ set old.pairs k (record { first = other; second = m })
  pub pending : new.pending ≡ old.pending
  pub pushes : Pushes old.lists new.lists m (record { clause = k; blocker = other })

abbrev next : Literal → Literal → Pair
next other m = record { first = other; second = m }

-- what stands at a place after the move
pair-new : (f : Formula) (trail : List Literal) (l other m : Literal) (k : ℕ) (clause : List Literal) (pair : Pair) (old new : Tables) → IsMoved f trail l other m k clause pair old new
    → (p : Pair) → slice_get new.pairs k ≡ Some p → p ≡ next other m
pair-new f trail l other m k clause pair old new moved p at =
    one-at new.pairs k p (next other m) at (subst (λ (ps : List Pair). slice_get ps k ≡ Some (next other m)) (sym moved.pairs) (get-set-same old.pairs k (next other m) (slice_get_within old.pairs k pair moved.at_pair)))

pair-old : (f : Formula) (trail : List Literal) (l other m : Literal) (k : ℕ) (clause : List Literal) (pair : Pair) (old new : Tables) → IsMoved f trail l other m k clause pair old new
    → (j : ℕ) (p : Pair) → j ≢ k → slice_get new.pairs j ≡ Some p → slice_get old.pairs j ≡ Some p
pair-old f trail l other m k clause pair old new moved j p apart at = get-set-other old.pairs j k (next other m) p apart (subst (λ (ps : List Pair). slice_get ps j ≡ Some p) moved.pairs at)

-- the clause doesn't watch the literal any more
moved-leaves : (f : Formula) (trail : List Literal) (l other m : Literal) (k : ℕ) (clause : List Literal) (pair : Pair) (old new : Tables) → IsKept f trail old → IsMoved f trail l other m k clause pair old new
    → (p : Pair) → slice_get new.pairs k ≡ Some p → IsOf p l → ⊥
moved-leaves f trail l other m k clause pair old new kept moved p at of =
    elim (kept.watches k clause pair moved.at moved.at_pair) [
      | inl none ↦ nonempty clause m moved.in_clause none
      | inr both ↦ neither both.0 (subst (λ (q : Pair). IsOf q l) (pair-new f trail l other m k clause pair old new moved p at) of)
    ] where
      neither : IsWatching trail clause pair → IsOf (next other m) l → ⊥
      neither w (inl e) = two-differ trail clause pair l other m w moved.two moved.in_clause moved.isnt e
      neither w (inr e) = moved.isnt (subst (IsOf pair) e (of-other pair l other moved.two))

moved-watches : (f : Formula) (trail : List Literal) (l other m : Literal) (k : ℕ) (clause : List Literal) (pair : Pair) (old new : Tables) → IsMoved f trail l other m k clause pair old new
    → IsWatching trail clause pair → IsWatching trail clause (next other m)
moved-watches f trail l other m k clause pair old new moved w = record {
  has = λ x of. elim of [ inl e ↦ subst (Contains clause) (sym e) (w.has other (other-of pair l other moved.two)) | inr e ↦ subst (Contains clause) (sym e) moved.in_clause ];
  alone = λ e. absurd (moved.isnt (subst (IsOf pair) e (other-of pair l other moved.two)));
  guarded = λ i x of at. elim of [
    | inl e ↦ elim (w.guarded i x (subst (IsOf pair) (sym e) (other-of pair l other moved.two)) at) [
      | inl others ↦ absurd (moved.not_false (take-has trail i (negated m) (others m moved.in_clause moved.isnt)))
      | inr some ↦ inr some
    ]
    | inr e ↦ absurd (moved.not_false (contains-at trail i (negated m) (subst (λ (z : Literal). slice_get trail i ≡ Some (negated z)) e at)))
  ];
}

moved-listed : (f : Formula) (trail : List Literal) (l other m : Literal) (k : ℕ) (clause : List Literal) (pair : Pair) (old new : Tables) → IsMoved f trail l other m k clause pair old new
    → IsListed old.lists k pair → IsListed new.lists k (next other m)
moved-listed f trail l other m k clause pair old new moved listed x (inl e) =
    let (entry, there, is) = listed x (subst (IsOf pair) (sym e) (other-of pair l other moved.two)) in
    (entry, pushes-keeps old.lists new.lists m (record { clause = k; blocker = other }) moved.pushes x entry there, is)
moved-listed f trail l other m k clause pair old new moved listed x (inr e) =
    (record { clause = k; blocker = other }, subst (λ (z : Literal). Contains (list_of new.lists z) (record { clause = k; blocker = other })) (sym e) (pushes-there old.lists new.lists m (record { clause = k; blocker = other }) moved.pushes), refl)

moved-kept : (f : Formula) (trail : List Literal) (l other m : Literal) (k : ℕ) (clause : List Literal) (pair : Pair) (old new : Tables) → IsKept f trail old → IsMoved f trail l other m k clause pair old new → IsKept f trail new
moved-kept f trail l other m k clause pair old new kept moved = record {
  sized = ap length moved.pairs ∙ (length-set old.pairs k (next other m) ∙ kept.sized);
  room = ap length moved.pending ∙ kept.room;
  lists_sized = moved.pushes.sized ∙ kept.lists_sized;
  watches = λ j c p at at_p. elim (cases_eq j k) [
    | inl same ↦
        let here : slice_get f.clauses k ≡ Some c = subst (λ (n : ℕ). slice_get f.clauses n ≡ Some c) same at in
        let is_c : clause ≡ c = one-at f.clauses k clause c moved.at here in
        let is_p : p ≡ next other m = pair-new f trail l other m k clause pair old new moved p (subst (λ (n : ℕ). slice_get new.pairs n ≡ Some p) same at_p) in
        elim (kept.watches k clause pair moved.at moved.at_pair) [
          | inl none ↦ absurd (nonempty clause m moved.in_clause none)
          | inr both ↦ inr (
            subst (λ (d : List Literal). IsWatching trail d p) is_c (subst (IsWatching trail clause) (sym is_p) (moved-watches f trail l other m k clause pair old new moved both.0)),
            subst (λ (n : ℕ). IsListed new.lists n p) (sym same) (subst (IsListed new.lists k) (sym is_p) (moved-listed f trail l other m k clause pair old new moved both.1)),
          )
        ]
    | inr apart ↦ elim (kept.watches j c p at (pair-old f trail l other m k clause pair old new moved j p apart at_p)) [
      | inl none ↦ inl none
      | inr both ↦ inr (both.0, λ x of. let (entry, there, is) = both.1 x of in (entry, pushes-keeps old.lists new.lists m (record { clause = k; blocker = other }) moved.pushes x entry there, is))
    ]
  ];
  entries = λ x entry over there. elim (pushes-cases old.lists new.lists m (record { clause = k; blocker = other }) moved.pushes x entry there) [
    | inl before ↦ kept.entries x entry over before
    | inr here ↦ subst (IsEntry f.clauses) here (clause, moved.at, other_in (kept.watches k clause pair moved.at moved.at_pair))
  ];
} where
  other_in : (clause ≡ []) ⊎ (IsWatching trail clause pair × IsListed old.lists k pair) → Contains clause other
  other_in (inl none) = absurd (nonempty clause m moved.in_clause none)
  other_in (inr both) = both.0.has other (other-of pair l other moved.two)

pub visits-move : (f : Formula) (trail : List Literal) (l other m : Literal) (k : ℕ) (clause : List Literal) (pair : Pair) (old new : Tables) → IsFormula f → IsOver f.vars l → IsKept f trail old
    → IsMoved f trail l other m k clause pair old new → Visits f trail l k old new false
visits-move f trail l other m k clause pair old new formed over kept moved =
    let leaves = moved-leaves f trail l other m k clause pair old new kept moved in
    record {
      kept = moved-kept f trail l other m k clause pair old new kept moved;
      list_stays = moved.pushes.others l (λ same. moved.isnt (subst (IsOf pair) (place-apart f.vars l m over (over-in f.vars clause m (All-at (IsClause f.vars) f.clauses k clause formed.each moved.at) moved.in_clause) same) (of-other pair l other moved.two)));
      more = subst (IsMore old.pending) (sym moved.pending) (IsMore-same old.pending);
      settled = λ c p at at_p of full. absurd (leaves p at_p of);
      stable = λ j settled c p at at_p of full. elim (cases_eq j k) [
        | inl same ↦ absurd (leaves p (subst (λ (n : ℕ). slice_get new.pairs n ≡ Some p) same at_p) of)
        | inr apart ↦ elim (settled c p at (pair-old f trail l other m k clause pair old new moved j p apart at_p) of full) [
          | inl some ↦ inl some
          | inr both ↦ inr (both.0, subst (λ (s : List Bool). has s j ≡ true) (sym moved.pending) both.1)
        ]
      ];
      leaves = λ e. leaves;
    }

-- an entry was taken out of the list of a literal that its clause doesn't watch
pub kept-dropped : (f : Formula) (trail : List Literal) (l : Literal) (at : ℕ) (entry : Entry) (t : Tables) (lists : List (List Entry)) → IsFormula f → IsOver f.vars l → IsKept f trail t → Drops t.lists lists l at
    → slice_get (list_of t.lists l) at ≡ Some entry → ((p : Pair) → slice_get t.pairs entry.clause ≡ Some p → IsOf p l → ⊥) → IsKept f trail (record t { lists = lists })
kept-dropped f trail l at entry t lists formed over kept drops stands leaves = record {
  sized = kept.sized;
  room = kept.room;
  lists_sized = drops.sized ∙ kept.lists_sized;
  watches = λ k c p at_c at_p. elim (kept.watches k c p at_c at_p) [
    | inl none ↦ inl none
    | inr both ↦ inr (both.0, λ x of. still k p at_p x of (over-in f.vars c x (All-at (IsClause f.vars) f.clauses k c formed.each at_c) (both.0.has x of)) (both.1 x of))
  ];
  entries = λ x e over_x there. kept.entries x e over_x (before x e there);
} where
  still : (k : ℕ) (p : Pair) → slice_get t.pairs k ≡ Some p → (x : Literal) → IsOf p x → IsOver f.vars x → HasEntry t.lists x k → HasEntry lists x k
  still k p at_p x of over_x (e, there, is) = elim (cases_eq (place x) (place l)) [
    | inr apart ↦ (e, subst (λ (es : List Entry). Contains es e) (sym (drops.others x apart)) there, is)
    | inl same ↦
        let one : x ≡ l = place-apart f.vars x l over_x over same in
        let (i, at_i) = at-of (list_of t.lists l) e (subst (λ (z : Literal). Contains (list_of t.lists z) e) one there) in
        elim (cases_eq i at) [
          | inl here ↦
              let is_e : e ≡ entry = one-at (list_of t.lists l) at e entry (subst (λ (n : ℕ). slice_get (list_of t.lists l) n ≡ Some e) here at_i) stands in
              absurd (leaves p (subst (λ (n : ℕ). slice_get t.pairs n ≡ Some p) (sym is ∙ ap (λ (d : Entry). d.clause) is_e) at_p) (subst (IsOf p) one of))
          | inr other ↦ (e, subst (λ (z : Literal). Contains (list_of lists z) e) (sym one) (drops.kept i e other at_i), is)
        ]
  ]

  before : (x : Literal) (e : Entry) → Contains (list_of lists x) e → Contains (list_of t.lists x) e
  before x e there = elim (cases_eq (place x) (place l)) [
    | inr apart ↦ subst (λ (es : List Entry). Contains es e) (drops.others x apart) there
    | inl same ↦ subst (λ (n : ℕ). Contains (get_or t.lists n []) e) (sym same) (drops.none_new e (subst (λ (n : ℕ). Contains (get_or lists n []) e) same there))
  ]

-- how far the list of a literal was gone through
pub record IsWalked (f : Formula) (trail : List Literal) (l : Literal) (old t : Tables) (at : ℕ) : Type 0 where
  pub kept : IsKept f trail t
  pub more : IsMore old.pending t.pending
  pub done : (i : ℕ) (entry : Entry) → i < at → slice_get (list_of t.lists l) i ≡ Some entry → IsSettled f trail l t entry.clause

pub walked-all : (f : Formula) (trail : List Literal) (l : Literal) (old t : Tables) (at : ℕ) → IsWalked f trail l old t at → length (list_of t.lists l) ≤ at → Falsifies f trail l old t
walked-all f trail l old t at walked whole = record {
  kept = walked.kept;
  more = walked.more;
  settled = λ k c p at_c at_p of full. elim (walked.kept.watches k c p at_c at_p) [
    | inl none ↦ absurd (full none)
    | inr both ↦
        let (entry, there, is) = both.1 l of in
        let (i, at_i) = at-of (list_of t.lists l) entry there in
        let settled : IsSettled f trail l t k = subst (IsSettled f trail l t) is (walked.done i entry (omega (arith, slice_get_within (list_of t.lists l) i entry at_i, whole)) at_i) in
        settled c p at_c at_p of full
  ];
}

pub walked-stays : (f : Formula) (trail : List Literal) (l : Literal) (old t u : Tables) (at : ℕ) (entry : Entry) (stays : Bool) → IsWalked f trail l old t at → slice_get (list_of t.lists l) at ≡ Some entry
    → Visits f trail l entry.clause t u stays → IsWalked f trail l old u (at + 1)
walked-stays f trail l old t u at entry stays walked stands visits = record {
  kept = visits.kept;
  more = record { sized = visits.more.sized ∙ walked.more.sized; stays = λ k there. visits.more.stays k (walked.more.stays k there) };
  done = λ i e below at_i.
      let was : slice_get (list_of t.lists l) i ≡ Some e = subst (λ (es : List Entry). slice_get es i ≡ Some e) visits.list_stays at_i in
      elim (cases_lt i at) [
        | inl before ↦ visits.stable e.clause (walked.done i e before was)
        | inr past ↦
            let here : i ≡ at = omega (arith, below, past) in
            let same : entry ≡ e = one-at (list_of t.lists l) at entry e stands (subst (λ (n : ℕ). slice_get (list_of t.lists l) n ≡ Some e) here was) in
            subst (λ (d : Entry). IsSettled f trail l u d.clause) same visits.settled
      ];
}

pub walked-drops : (f : Formula) (trail : List Literal) (l : Literal) (old t u : Tables) (lists : List (List Entry)) (at : ℕ) (entry : Entry) (stays : Bool) → IsFormula f → IsOver f.vars l → IsWalked f trail l old t at
    → slice_get (list_of t.lists l) at ≡ Some entry → Visits f trail l entry.clause t u stays → stays ≡ false → Drops u.lists lists l at → IsWalked f trail l old (record u { lists = lists }) at
walked-drops f trail l old t u lists at entry stays formed over walked stands visits leaves drops = record {
  kept = kept-dropped f trail l at entry u lists formed over visits.kept drops (subst (λ (es : List Entry). slice_get es at ≡ Some entry) (sym visits.list_stays) stands) (visits.leaves leaves);
  more = record { sized = visits.more.sized ∙ walked.more.sized; stays = λ k there. visits.more.stays k (walked.more.stays k there) };
  done = λ i e below at_i.
      visits.stable e.clause (walked.done i e below (subst (λ (es : List Entry). slice_get es i ≡ Some e) visits.list_stays (sym (drops.before i below) ∙ at_i)));
}

-- one literal more of a clause that is a watch or false
pub others-more : (trail clause : List Literal) (pair : Pair) (k : ℕ) (l : Literal) → OthersFail trail (take k clause) pair → k < length clause → l ≡ get_or clause k l → ((IsOf pair l → ⊥) → IsFalse trail l)
    → OthersFail trail (take (k + 1) clause) pair
others-more trail clause pair k l others below at here m has isnt =
    elim (Contains-push_cases (take k clause) l m (subst (λ (c : List Literal). Contains c m) (take_more clause k l below ∙ ap (λ (x : Literal). take k clause ++ x ∷ []) (sym at)) has)) [
      | inl before ↦ others m before isnt
      | inr same ↦ subst (IsFalse trail) same (here (λ of. isnt (subst (IsOf pair) same of)))
    ]

pub clause-at : (clauses : List (List Literal)) (k : ℕ) → k < length clauses → (clause : List Literal) × (slice_get clauses k ≡ Some clause)
clause-at clauses k below = elim ((slice_get_cases clauses k).1) [ inl found ↦ (found.0, found.2) | inr past ↦ absurd (omega (arith, past.0, below)) ]

-- the other watch stands in the clause of an entry
pub other-in : (f : Formula) (trail : List Literal) (t : Tables) (k : ℕ) (clause : List Literal) (pair : Pair) (l other b : Literal) → IsKept f trail t → slice_get f.clauses k ≡ Some clause → slice_get t.pairs k ≡ Some pair
    → Contains clause b → HasOther pair l (Some other) → Contains clause other
other-in f trail t k clause pair l other b kept at at_pair full two = elim (kept.watches k clause pair at at_pair) [
  | inl none ↦ absurd (nonempty clause b full none)
  | inr both ↦ both.0.has other (other-of pair l other two)
]

pub if-ok-map : {E : Type 0} (r : Result Bool E) (P Q : Bool → Type 0) → IfOk r P → ((x : Bool) → P x → Q x) → IfOk r Q
if-ok-map (Ok x) P Q p on = on x p
if-ok-map (Err e) P Q p on = p
