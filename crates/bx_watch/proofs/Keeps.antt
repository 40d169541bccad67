-- What each event makes of the watches of clauses.
use Rattle.std.proofs.Common.{◌≡◌, ◌≢◌, ℕ, ◌+◌, ◌*◌, ◌-◌, ◌<◌, Bool, true, false, cond, List, [], ◌∷◌, ◌++◌, length, get_or, set, slice_get, Some, refl, sym, ◌∙◌, ap, subst, inl, inr, ◌⊎◌, arith, length-set}
use Rattle.std.specs.Prelude.{All, Contains}
use Rattle.std.proofs.lemmas.Bool.{cases_eq}
use Rattle.std.proofs.lemmas.Option.{slice_get-get_or, slice_get_within, get_or_from_slice_get, slice_get_cases}
use Rattle.std.proofs.lemmas.List.{get_or-set_same, get_or-set_other, get_or_default, length_push}
use Rattle.std.proofs.lemmas.List.Elements.{All-contains, All-from_get_or, All-push, Contains-append_left, Contains-push, Contains-push_cases}
use Rattle.bx_cnf.specs.Literals.{Literal, negated}
use Rattle.bx_cnf.specs.Formulas.{Formula, IsFormula, IsClause}
use Rattle.bx_cnf.specs.Assignments.{IsFalse, IsActive}
use Rattle.bx_least_set.specs.Numbers.{has, Inserts}
use Rattle.bx_watch.specs.declared.lists.Entry.{Entry}
use Rattle.bx_watch.specs.declared.watches.Pair.{Pair}
use Rattle.bx_watch.specs.Watching.{IsOver, AreApart}
use Rattle.bx_watch.specs.Lists.{place, list_of, Pushes}
use Rattle.bx_watch.specs.Watches.{IsOf, OthersFail, SomeHolds}
use Rattle.bx_watch.specs.Keeping.{Tables, IsKept, AreIn, IsMore, IsSettled, Visits, Releases}
use Rattle.bx_watch.proofs.Trails.{literal-same}
use Rattle.bx_watch.proofs.ClauseReads.{blocked-inactive, literal-over}
use Rattle.bx_watch.proofs.Lits.{dec-of}
use Rattle.bx_watch.proofs.Wakes.{IsWatching-push, IsWatching-pop, was-active}

some-same : {X : Type 0} (a b : X) → Some a ≡ Some b → a ≡ b
some-same a b e = cc

pub one-at : {X : Type 0} (xs : List X) (k : ℕ) (a b : X) → slice_get xs k ≡ Some a → slice_get xs k ≡ Some b → a ≡ b
one-at xs k a b at too = some-same a b (sym at ∙ too)

pub get-set-same : {X : Type 0} (xs : List X) (k : ℕ) (x : X) → k < length xs → slice_get (set xs k x) k ≡ Some x
get-set-same {X} xs k x below = slice_get-get_or (set xs k x) k x (omega (arith, length-set xs k x)) ∙ ap (λ (y : X). Some y) (get_or-set_same xs k x x below)

pub get-set-other : {X : Type 0} (xs : List X) (j k : ℕ) (x y : X) → j ≢ k → slice_get (set xs k x) j ≡ Some y → slice_get xs j ≡ Some y
get-set-other {X} xs j k x y apart at =
    let within : j < length xs = omega (arith, slice_get_within (set xs k x) j y at, length-set xs k x) in
    slice_get-get_or xs j y within ∙ ap (λ (z : X). Some z) (sym (get_or-set_other xs k j x y apart) ∙ get_or_from_slice_get (set xs k x) j y y at)

pub All-at : {X : Type 0} (P : X → Type 0) (xs : List X) (k : ℕ) (x : X) → All P xs → slice_get xs k ≡ Some x → P x
All-at P xs k x all at = All-contains P xs x all (k, slice_get_within xs k x at, get_or_from_slice_get xs k x x at)

pub has-at : {X : Type 0} (xs : List X) (k : ℕ) (x : X) → slice_get xs k ≡ Some x → Contains xs x
has-at xs k x at = (k, slice_get_within xs k x at, get_or_from_slice_get xs k x x at)

pub at-of : {X : Type 0} (xs : List X) (x : X) → Contains xs x → (k : ℕ) × (slice_get xs k ≡ Some x)
at-of {X} xs x (k, below, is) = (k, slice_get-get_or xs k x below ∙ ap (λ (y : X). Some y) is)

pub pair-at : (f : Formula) (trail : List Literal) (t : Tables) (k : ℕ) (clause : List Literal) → IsKept f trail t → slice_get f.clauses k ≡ Some clause → (pair : Pair) × (slice_get t.pairs k ≡ Some pair)
pair-at f trail t k clause kept at = elim ((slice_get_cases t.pairs k).1) [
  | inl found ↦ (found.0, found.2)
  | inr past ↦ absurd (omega (arith, past.0, kept.sized, slice_get_within f.clauses k clause at))
]

pub over-in : (vars : ℕ) (clause : List Literal) (l : Literal) → IsClause vars clause → Contains clause l → IsOver vars l
over-in vars clause l is (k, below, at) = subst (IsOver vars) at (literal-over vars clause k (get_or clause k l) is below (sym (get_or_default clause k (get_or clause k l) l below)))

pub place-apart : (vars : ℕ) (l m : Literal) → IsOver vars l → IsOver vars m → place l ≡ place m → l ≡ m
place-apart vars l m over_l over_m same = by_sign l.positive m.positive refl refl where
  codes : (a b : Bool) → a ≡ l.positive → b ≡ m.positive → 2 * (l.var - 1) + cond a 0 1 ≡ 2 * (m.var - 1) + cond b 0 1
  codes a b p q = subst (λ (x : Bool). 2 * (l.var - 1) + cond x 0 1 ≡ 2 * (m.var - 1) + cond b 0 1) (sym p) (subst (λ (y : Bool). 2 * (l.var - 1) + cond l.positive 0 1 ≡ 2 * (m.var - 1) + cond y 0 1) (sym q) same)

  by_sign : (a b : Bool) → a ≡ l.positive → b ≡ m.positive → l ≡ m
  by_sign true true p q = literal-same l m (omega (arith, over_l.0, over_m.0, codes true true p q)) (sym p ∙ q)
  by_sign false false p q = literal-same l m (omega (arith, over_l.0, over_m.0, codes false false p q)) (sym p ∙ q)
  by_sign true false p q = absurd (omega (arith, over_l.0, over_m.0, codes true false p q))
  by_sign false true p q = absurd (omega (arith, over_l.0, over_m.0, codes false true p q))

pub nonempty : (clause : List Literal) (l : Literal) → Contains clause l → clause ≡ [] → ⊥
nonempty clause l (k, below, is) none = omega (arith, below, ap length none)

pub empty-active : (trail : List Literal) → IsActive trail []
empty-active trail = inl (All-from_get_or (IsFalse trail) [] (record { var = 1; positive = true }) (λ i below. absurd (omega (arith, below))))

-- tables with another set of clauses that may be active
tables-same : (old new : Tables) → new.lists ≡ old.lists → new.pairs ≡ old.pairs → record old { pending = new.pending } ≡ new
tables-same old new lists pairs =
    ap (λ (ls : List (List Entry)). record { lists = ls; pairs = old.pairs; pending = new.pending }) (sym lists)
    ∙ ap (λ (ps : List Pair). record { lists = new.lists; pairs = ps; pending = new.pending }) (sym pairs)

pub kept-with : (f : Formula) (trail : List Literal) (old new : Tables) → IsKept f trail old → new.lists ≡ old.lists → new.pairs ≡ old.pairs → length new.pending ≡ length old.pending → IsKept f trail new
kept-with f trail old new kept lists pairs sized = subst (IsKept f trail) (tables-same old new lists pairs) (record {
  sized = kept.sized;
  room = sized ∙ kept.room;
  lists_sized = kept.lists_sized;
  watches = kept.watches;
  entries = kept.entries;
})

-- a literal is assigned, where all clauses that watch its negation are settled
pub kept-assigned : (f : Formula) (trail : List Literal) (t : Tables) (l : Literal) → IsKept f trail t → ((k : ℕ) → IsSettled f trail (negated l) t k) → IsKept f (trail ++ l ∷ []) t
kept-assigned f trail t l kept settled = record {
  sized = kept.sized;
  room = kept.room;
  lists_sized = kept.lists_sized;
  watches = λ k clause pair at at_pair. elim (kept.watches k clause pair at at_pair) [
    | inl none ↦ inl none
    | inr both ↦ inr (
      IsWatching-push trail clause pair l both.0
          (λ of. turn clause pair k (settled k clause pair at at_pair of (nonempty clause (negated l) (both.0.has (negated l) of)))),
      both.1,
    )
  ];
  entries = kept.entries;
} where
  turn : (clause : List Literal) (pair : Pair) (k : ℕ) → SomeHolds trail clause ⊎ (OthersFail trail clause pair × (has t.pending k ≡ true)) → OthersFail trail clause pair ⊎ SomeHolds trail clause
  turn clause pair k (inl some) = inr some
  turn clause pair k (inr others) = inl others.0

pub pending-assigned : (f : Formula) (trail : List Literal) (old : List Bool) (t : Tables) (l : Literal) → IsFormula f → AreApart (trail ++ l ∷ []) → IsKept f trail t
    → ((k : ℕ) → IsSettled f trail (negated l) t k) → AreIn f trail old → IsMore old t.pending → AreIn f (trail ++ l ∷ []) t.pending
pending-assigned f trail old t l formed apart kept settled were more k clause at active =
    let (pair, at_pair) = pair-at f trail t k clause kept at in
    elim (kept.watches k clause pair at at_pair) [
      | inl none ↦ more.stays k (were k clause at (subst (IsActive trail) (sym none) (empty-active trail)))
      | inr both ↦ elim (dec-of pair (negated l)) [
        | inl of ↦ elim (settled k clause pair at at_pair of (nonempty clause (negated l) (both.0.has (negated l) of))) [
          | inl some ↦ absurd (blocked-inactive (trail ++ l ∷ []) clause apart (inl (some.0, some.1, Contains-append_left trail (l ∷ []) some.0 some.2)) active)
          | inr others ↦ others.1
        ]
        | inr none ↦ more.stays k (were k clause at (was-active f.vars trail clause pair l (All-at (IsClause f.vars) f.clauses k clause formed.each at) apart both.0 none active))
      ]
    ]

-- a literal is freed
pub kept-freed : (f : Formula) (trail : List Literal) (old new : Tables) (l : Literal) (parked left : List (List Entry)) → IsKept f (trail ++ l ∷ []) old → Releases l old new parked left → IsKept f trail new
kept-freed f trail old new l parked left kept releases = kept-with f trail old new (record {
  sized = kept.sized;
  room = kept.room;
  lists_sized = kept.lists_sized;
  watches = λ k clause pair at at_pair. elim (kept.watches k clause pair at at_pair) [
    | inl none ↦ inl none
    | inr both ↦ inr (IsWatching-pop trail clause pair l both.0, both.1)
  ];
  entries = kept.entries;
}) releases.lists_stay releases.pairs_stay releases.more.sized

pub IsMore-same : (s : List Bool) → IsMore s s
IsMore-same s = record { sized = refl; stays = λ k there. there }

pub IsMore-insert : (old new : List Bool) (k : ℕ) → Inserts old new k → IsMore old new
IsMore-insert old new k inserts = record {
  sized = inserts.bound_stays;
  stays = λ j there. elim (cases_eq j k) [
    | inl same ↦ ap (has new) same ∙ inserts.there
    | inr apart ↦ inserts.others j apart ∙ there
  ];
}

pub IsMore-on : (a b c : List Bool) → IsMore a b → IsMore b c → IsMore a c
IsMore-on a b c p q = record { sized = q.sized ∙ p.sized; stays = λ k there. q.stays k (p.stays k there) }

-- an entry whose clause has a true literal
pub visits-true : (f : Formula) (trail : List Literal) (l : Literal) (k : ℕ) (t : Tables) (clause : List Literal) → IsKept f trail t → slice_get f.clauses k ≡ Some clause → SomeHolds trail clause → Visits f trail l k t t true
visits-true f trail l k t clause kept at some = record {
  kept = kept;
  list_stays = refl;
  more = IsMore-same t.pending;
  settled = λ other pair at_other at_pair of full. inl (subst (SomeHolds trail) (one-at f.clauses k clause other at at_other) some);
  stable = λ j settled. settled;
  leaves = λ e. absurd (true_false e);
} where
  true_false : true ≡ false → ⊥
  true_false e = cc

-- an entry of a clause that watches other literals now
pub visits-none : (f : Formula) (trail : List Literal) (l : Literal) (k : ℕ) (t : Tables) (pair : Pair) → IsKept f trail t → slice_get t.pairs k ≡ Some pair → (IsOf pair l → ⊥) → Visits f trail l k t t false
visits-none f trail l k t pair kept at none = record {
  kept = kept;
  list_stays = refl;
  more = IsMore-same t.pending;
  settled = λ clause other at_clause at_other of full. absurd (none (subst (λ (p : Pair). IsOf p l) (one-at t.pairs k other pair at_other at) of));
  stable = λ j settled. settled;
  leaves = λ e other at_other of. none (subst (λ (p : Pair). IsOf p l) (one-at t.pairs k other pair at_other at) of);
}

-- a clause of which all but its watches are false is put into the set
pub visits-insert : (f : Formula) (trail : List Literal) (l : Literal) (k : ℕ) (old : Tables) (pending : List Bool) (clause : List Literal) (pair : Pair) → IsKept f trail old
    → slice_get f.clauses k ≡ Some clause → slice_get old.pairs k ≡ Some pair → OthersFail trail clause pair → Inserts old.pending pending k → Visits f trail l k old (record old { pending = pending }) true
visits-insert f trail l k old pending clause pair kept at at_pair others inserts = record {
  kept = kept-with f trail old (record old { pending = pending }) kept refl refl inserts.bound_stays;
  list_stays = refl;
  more = IsMore-insert old.pending pending k inserts;
  settled = λ c p at_c at_p of full. inr (subst (λ (d : List Literal). OthersFail trail d p) (one-at f.clauses k clause c at at_c) (subst (OthersFail trail clause) (one-at old.pairs k pair p at_pair at_p) others), inserts.there);
  stable = λ j settled c p at_c at_p of full. elim (settled c p at_c at_p of full) [
    | inl some ↦ inl some
    | inr both ↦ inr (both.0, (IsMore-insert old.pending pending k inserts).stays j both.1)
  ];
  leaves = λ e. absurd (true_false e);
} where
  true_false : true ≡ false → ⊥
  true_false e = cc

-- an entry more
pub pushes-keeps : (old new : List (List Entry)) (m : Literal) (e : Entry) → Pushes old new m e → (x : Literal) (d : Entry) → Contains (list_of old x) d → Contains (list_of new x) d
pushes-keeps old new m e pushes x d listed = elim (cases_eq (place x) (place m)) [
  | inl same ↦ subst (λ (es : List Entry). Contains es d) (sym (ap (λ (n : ℕ). get_or new n []) same ∙ pushes.here))
      (Contains-append_left (list_of old m) (e ∷ []) d (subst (λ (n : ℕ). Contains (get_or old n []) d) same listed))
  | inr apart ↦ subst (λ (es : List Entry). Contains es d) (sym (pushes.others x apart)) listed
]

pub pushes-cases : (old new : List (List Entry)) (m : Literal) (e : Entry) → Pushes old new m e → (x : Literal) (d : Entry) → Contains (list_of new x) d → Contains (list_of old x) d ⊎ (e ≡ d)
pushes-cases old new m e pushes x d listed = elim (cases_eq (place x) (place m)) [
  | inl same ↦ elim (Contains-push_cases (list_of old m) e d (subst (λ (es : List Entry). Contains es d) pushes.here (subst (λ (n : ℕ). Contains (get_or new n []) d) same listed))) [
    | inl before ↦ inl (subst (λ (n : ℕ). Contains (get_or old n []) d) (sym same) before)
    | inr here ↦ inr here
  ]
  | inr apart ↦ inl (subst (λ (es : List Entry). Contains es d) (pushes.others x apart) listed)
]

pub pushes-there : (old new : List (List Entry)) (m : Literal) (e : Entry) → Pushes old new m e → Contains (list_of new m) e
pushes-there old new m e pushes = subst (λ (es : List Entry). Contains es e) (sym pushes.here) (Contains-push (list_of old m) e)

pub IsFormula-push : (vars : ℕ) (clauses : List (List Literal)) (literals : List Literal) → IsFormula (record { vars = vars; clauses = clauses }) → IsClause vars literals → length clauses < 4294967295
    → IsFormula (record { vars = vars; clauses = clauses ++ literals ∷ [] })
IsFormula-push vars clauses literals formed is room = record {
  vars = formed.vars;
  count = omega (arith, room, length_push clauses literals);
  each = All-push (IsClause vars) clauses literals formed.each is;
}

pub item-at : {X : Type 0} (xs : List X) (k : ℕ) → k < length xs → (x : X) × (slice_get xs k ≡ Some x)
item-at xs k below = elim ((slice_get_cases xs k).1) [ inl found ↦ (found.0, found.2) | inr past ↦ absurd (omega (arith, past.0, below)) ]

pub place-below : (vars : ℕ) (l : Literal) → IsOver vars l → place l < 2 * vars
place-below vars l over = by_sign l.positive refl where
  by_sign : (a : Bool) → a ≡ l.positive → place l < 2 * vars
  by_sign true p = subst (λ (x : Bool). 2 * (l.var - 1) + cond x 0 1 < 2 * vars) p (omega (arith, over.0, over.1))
  by_sign false p = subst (λ (x : Bool). 2 * (l.var - 1) + cond x 0 1 < 2 * vars) p (omega (arith, over.0, over.1))
