-- A clause more: its watches, its entries, and whether it is active.
use Rattle.std.proofs.Common.{◌≡◌, ◌≢◌, ℕ, ◌+◌, ◌*◌, ◌<◌, ◌≤◌, Bool, true, List, [], ◌∷◌, ◌++◌, length, get_or, take, slice_get, Some, refl, sym, ◌∙◌, ap, subst, inl, inr, ◌⊎◌, arith, length-take}
use Rattle.std.specs.Prelude.{Contains}
use Rattle.std.proofs.lemmas.Bool.{cases_lt}
use Rattle.std.proofs.lemmas.Option.{slice_get-get_or, slice_get_within, get_or_from_slice_get}
use Rattle.std.proofs.lemmas.List.{take_all, take_at, get_or-take, length_push, get_or_append_left, get_or_push}
use Rattle.bx_cnf.specs.Literals.{Literal}
use Rattle.bx_cnf.specs.Formulas.{Formula, IsClause}
use Rattle.bx_cnf.specs.Assignments.{IsActive}
use Rattle.bx_least_set.specs.Numbers.{has, Grows, IsNew}
use Rattle.bx_watch.specs.declared.lists.Entry.{Entry}
use Rattle.bx_watch.specs.declared.watches.Pair.{Pair}
use Rattle.bx_watch.specs.Lists.{list_of, Pushes, IsEmptyFor}
use Rattle.bx_watch.specs.Watches.{IsOf, IsWatching}
use Rattle.bx_watch.specs.Keeping.{Tables, IsListed, IsMore, IsReady, Enters, up_to}
use Rattle.bx_watch.proofs.Firsts.{take-with}
use Rattle.bx_watch.proofs.Lits.{one-place}
use Rattle.bx_watch.proofs.Keeps.{at-of, pushes-keeps, pushes-cases, pushes-there}

-- entries for the one watch, or for both
pub enters-none : (lists : List (List Entry)) (k : ℕ) (clause : List Literal) (pair : Pair) → clause ≡ [] → Enters lists lists k clause pair
enters-none lists k clause pair none = record {
  sized = refl;
  listed = λ full. absurd (full none);
  stays = λ l entry there. there;
  none_other = λ l entry there. inl there;
}

pub enters-one : (old new : List (List Entry)) (k : ℕ) (clause : List Literal) (pair : Pair) → (clause ≡ [] → ⊥) → pair.first ≡ pair.second → Pushes old new pair.first (record { clause = k; blocker = pair.second }) → Enters old new k clause pair
enters-one old new k clause pair full same pushes =
    let e : Entry = record { clause = k; blocker = pair.second } in
    record {
      sized = pushes.sized;
      listed = λ _ x of. (record { clause = k; blocker = pair.second }, subst (λ (l : Literal). Contains (list_of new l) (record { clause = k; blocker = pair.second })) (first x of) (pushes-there old new pair.first (record { clause = k; blocker = pair.second }) pushes), refl);
      stays = pushes-keeps old new pair.first (record { clause = k; blocker = pair.second }) pushes;
      none_other = λ l entry there. elim (pushes-cases old new pair.first (record { clause = k; blocker = pair.second }) pushes l entry there) [
        | inl before ↦ inl before
        | inr here ↦ inr (full, ap (λ (d : Entry). d.clause) (sym here), inr (ap (λ (d : Entry). d.blocker) (sym here)))
      ];
    } where
      first : (x : Literal) → IsOf pair x → pair.first ≡ x
      first x (inl e) = sym e
      first x (inr e) = same ∙ sym e

pub enters-two : (old mid new : List (List Entry)) (k : ℕ) (clause : List Literal) (pair : Pair) → (clause ≡ [] → ⊥) → Pushes old mid pair.first (record { clause = k; blocker = pair.second })
    → Pushes mid new pair.second (record { clause = k; blocker = pair.first }) → Enters old new k clause pair
enters-two old mid new k clause pair full one two = record {
  sized = two.sized ∙ one.sized;
  listed = λ _ x of. elim of [
    | inl e ↦ (
      record { clause = k; blocker = pair.second },
      subst (λ (l : Literal). Contains (list_of new l) (record { clause = k; blocker = pair.second })) (sym e)
          (pushes-keeps mid new pair.second (record { clause = k; blocker = pair.first }) two pair.first (record { clause = k; blocker = pair.second }) (pushes-there old mid pair.first (record { clause = k; blocker = pair.second }) one)),
      refl,
    )
    | inr e ↦ (record { clause = k; blocker = pair.first }, subst (λ (l : Literal). Contains (list_of new l) (record { clause = k; blocker = pair.first })) (sym e) (pushes-there mid new pair.second (record { clause = k; blocker = pair.first }) two), refl)
  ];
  stays = λ l entry there. pushes-keeps mid new pair.second (record { clause = k; blocker = pair.first }) two l entry (pushes-keeps old mid pair.first (record { clause = k; blocker = pair.second }) one l entry there);
  none_other = λ l entry there. elim (pushes-cases mid new pair.second (record { clause = k; blocker = pair.first }) two l entry there) [
    | inr here ↦ inr (full, ap (λ (d : Entry). d.clause) (sym here), inl (ap (λ (d : Entry). d.blocker) (sym here)))
    | inl before ↦ elim (pushes-cases old mid pair.first (record { clause = k; blocker = pair.second }) one l entry before) [
      | inl first ↦ inl first
      | inr here ↦ inr (full, ap (λ (d : Entry). d.clause) (sym here), inr (ap (λ (d : Entry). d.blocker) (sym here)))
    ]
  ];
}

-- an item of a list that one was put behind
pub front-or-last : {X : Type 0} (xs : List X) (x : X) (k : ℕ) (y : X) → slice_get (xs ++ x ∷ []) k ≡ Some y → (slice_get xs k ≡ Some y) ⊎ ((k ≡ length xs) × (x ≡ y))
front-or-last {X} xs x k y at = elim (cases_lt k (length xs)) [
  | inl below ↦ inl (slice_get-get_or xs k y below ∙ ap (λ (z : X). Some z) (sym (get_or_append_left xs (x ∷ []) y k below) ∙ get_or_from_slice_get (xs ++ x ∷ []) k y y at))
  | inr past ↦
      let here : length xs ≡ k = omega (arith, past, slice_get_within (xs ++ x ∷ []) k y at, length_push xs x) in
      inr (sym here, sym (get_or_push xs x y k here) ∙ get_or_from_slice_get (xs ++ x ∷ []) k y y at)
]

in-front : {X : Type 0} (xs : List X) (x : X) (k : ℕ) (y : X) → slice_get xs k ≡ Some y → slice_get (xs ++ x ∷ []) k ≡ Some y
in-front {X} xs x k y at =
    let below : k < length xs = slice_get_within xs k y at in
    slice_get-get_or (xs ++ x ∷ []) k y (omega (arith, below, length_push xs x)) ∙ ap (λ (z : X). Some z) (get_or_append_left xs (x ∷ []) y k below ∙ get_or_from_slice_get xs k y y at)

pub at-last : {X : Type 0} (xs : List X) (x : X) → slice_get (xs ++ x ∷ []) (length xs) ≡ Some x
at-last {X} xs x = slice_get-get_or (xs ++ x ∷ []) (length xs) x (omega (arith, length_push xs x)) ∙ ap (λ (z : X). Some z) (get_or_push xs x x (length xs) refl)

is-empty : (c : List Literal) → (c ≡ []) ⊎ (c ≡ [] → ⊥)
is-empty [] = inl refl
is-empty (x ∷ xs) = inr (λ e. absurd (omega (arith, ap length e)))

-- a clause is attached behind these
pub attached : (vars : ℕ) (cs : List (List Literal)) (c : List Literal) (trail : List Literal) (pair : Pair) (old : Tables) (lists : List (List Entry)) (grown pending : List Bool)
    → IsReady (record { vars = vars; clauses = cs }) trail old → ((c ≡ [] → ⊥) → IsWatching trail c pair) → Enters old.lists lists (length cs) c pair → Grows old.pending grown → IsMore grown pending
    → (IsActive trail c → has pending (length cs) ≡ true) → IsReady (record { vars = vars; clauses = cs ++ c ∷ [] }) trail (record { lists = lists; pairs = old.pairs ++ pair ∷ []; pending = pending })
attached vars cs c trail pair old lists grown pending ready watching enters grows more wakes = record {
  kept = record {
    sized = omega (arith, length_push old.pairs pair, length_push cs c, ready.kept.sized);
    room = omega (arith, more.sized, grows.bound_is, length_push cs c, ready.kept.room);
    lists_sized = enters.sized ∙ ready.kept.lists_sized;
    watches = λ k clause p at at_p. elim (front-or-last cs c k clause at) [
      | inl before ↦ elim (ready.kept.watches k clause p before (old-pair k clause p before at_p)) [
        | inl none ↦ inl none
        | inr both ↦ inr (both.0, λ x of. let (entry, there, is) = both.1 x of in (entry, enters.stays x entry there, is))
      ]
      | inr last ↦ elim (is-empty c) [
        | inl none ↦ inl (sym last.1 ∙ none)
        | inr full ↦
            let same : pair ≡ p = new-pair k p last.0 at_p in
            inr (
              subst (λ (d : List Literal). IsWatching trail d p) last.1 (subst (IsWatching trail c) same (watching full)),
              subst (IsListed lists k) same (subst (λ (n : ℕ). IsListed lists n pair) (sym last.0) (enters.listed full)),
            )
      ]
    ];
    entries = λ l entry over there. elim (enters.none_other l entry there) [
      | inl before ↦ let (clause, at, blocker) = ready.kept.entries l entry over before in (clause, in-front cs c entry.clause clause at, blocker)
      | inr new ↦ (c, subst (λ (n : ℕ). slice_get (cs ++ c ∷ []) n ≡ Some c) (sym new.1) (at-last cs c), (watching new.0).has entry.blocker new.2)
    ];
  };
  pending = λ k clause at active. elim (front-or-last cs c k clause at) [
    | inl before ↦ more.stays k (grows.same k ∙ ready.pending k clause before active)
    | inr last ↦ subst (λ (n : ℕ). has pending n ≡ true) (sym last.0) (wakes (subst (IsActive trail) (sym last.1) active))
  ];
} where
  old-pair : (k : ℕ) (clause : List Literal) (p : Pair) → slice_get cs k ≡ Some clause → slice_get (old.pairs ++ pair ∷ []) k ≡ Some p → slice_get old.pairs k ≡ Some p
  old-pair k clause p before at_p = elim (front-or-last old.pairs pair k p at_p) [
    | inl front ↦ front
    | inr last ↦ absurd (omega (arith, last.0, ready.kept.sized, slice_get_within cs k clause before))
  ]

  new-pair : (k : ℕ) (p : Pair) → k ≡ length cs → slice_get (old.pairs ++ pair ∷ []) k ≡ Some p → pair ≡ p
  new-pair k p here at_p = elim (front-or-last old.pairs pair k p at_p) [
    | inl front ↦ absurd (omega (arith, here, ready.kept.sized, slice_get_within old.pairs k p front))
    | inr last ↦ last.1
  ]

-- the watches of no clause
pub ready-none : (f : Formula) (trail : List Literal) (t : Tables) → IsEmptyFor (2 * f.vars) t.lists → t.pairs ≡ [] → IsNew 0 t.pending → IsReady (up_to 0 f) trail t
ready-none f trail t lists pairs pending = record {
  kept = record {
    sized = ap length pairs;
    room = pending.bound_is;
    lists_sized = lists.sized;
    watches = λ k clause p at at_p. absurd (omega (arith, slice_get_within [] k clause at));
    entries = λ l entry over there. absurd (nothing entry (subst (λ (es : List Entry). Contains es entry) (lists.none l) there));
  };
  pending = λ k clause at active. absurd (omega (arith, slice_get_within [] k clause at));
} where
  nothing : (entry : Entry) → Contains [] entry → ⊥
  nothing entry (k, below, is) = omega (arith, below)

-- no clause of a front of a clause is over a literal behind it
pub fresh-at : (vars : ℕ) (clause : List Literal) (k : ℕ) (l m : Literal) → IsClause vars clause → slice_get clause k ≡ Some l → Contains (take k clause) m → m ≡ l → ⊥
fresh-at vars clause k l m is at front same =
    let (j, at_j) = at-of (take k clause) m front in
    let before : j < k = omega (arith, slice_get_within (take k clause) j m at_j, length-take k clause) in
    let within : j < length clause = omega (arith, slice_get_within (take k clause) j m at_j, length-take k clause) in
    let there : slice_get clause j ≡ Some m = slice_get-get_or clause j m within ∙ ap (λ (z : Literal). Some z) (sym (get_or-take k clause j m before) ∙ get_or_from_slice_get (take k clause) j m m at_j) in
    one-place vars clause j k l is (subst (λ (z : Literal). slice_get clause j ≡ Some z) same there) at (omega (arith, before))

pub take-two : (clause : List Literal) (d e : Literal) → 2 ≤ length clause → take 2 clause ≡ get_or clause 0 d ∷ get_or clause 1 e ∷ []
take-two [] d e two = absurd (omega (arith, two))
take-two (a ∷ []) d e two = absurd (omega (arith, two))
take-two (a ∷ b ∷ rest) d e two = refl

pub ready-with : (f : Formula) (trail : List Literal) (t u : Tables) → IsReady f trail t → u.lists ≡ t.lists → u.pairs ≡ t.pairs → u.pending ≡ t.pending → IsReady f trail u
ready-with f trail t u ready lists pairs pending = subst (IsReady f trail)
    (ap (λ (ls : List (List Entry)). record { lists = ls; pairs = t.pairs; pending = t.pending }) (sym lists)
    ∙ (ap (λ (ps : List Pair). record { lists = u.lists; pairs = ps; pending = t.pending }) (sym pairs) ∙ ap (λ (bs : List Bool). record { lists = u.lists; pairs = u.pairs; pending = bs }) (sym pending))) ready

pub ready-front : (f : Formula) (c : List Literal) (trail : List Literal) (t : Tables) (n : ℕ) → IsReady f trail t → n ≡ length f.clauses → IsReady (up_to n (record f { clauses = f.clauses ++ c ∷ [] })) trail t
ready-front f c trail t n ready is = subst (λ (cs : List (List Literal)). IsReady (record { vars = f.vars; clauses = cs }) trail t) (sym (take_at f.clauses (c ∷ []) n (sym is))) ready

pub ready-all : (f : Formula) (trail : List Literal) (t : Tables) (n : ℕ) → IsReady (up_to n f) trail t → length f.clauses ≤ n → IsReady f trail t
ready-all f trail t n ready whole = subst (λ (cs : List (List Literal)). IsReady (record { vars = f.vars; clauses = cs }) trail t) (take_all n f.clauses whole) ready

pub attached-at : (f : Formula) (n : ℕ) (c : List Literal) (trail : List Literal) (pair : Pair) (old : Tables) (lists : List (List Entry)) (grown pending : List Bool) → slice_get f.clauses n ≡ Some c
    → IsReady (up_to n f) trail old → ((c ≡ [] → ⊥) → IsWatching trail c pair) → Enters old.lists lists n c pair → Grows old.pending grown → IsMore grown pending → (IsActive trail c → has pending n ≡ true)
    → IsReady (up_to (n + 1) f) trail (record { lists = lists; pairs = old.pairs ++ pair ∷ []; pending = pending })
attached-at f n c trail pair old lists grown pending at ready watching enters grows more wakes =
    let count : length (take n f.clauses) ≡ n = omega (arith, length-take n f.clauses, slice_get_within f.clauses n c at) in
    subst (λ (cs : List (List Literal)). IsReady (record { vars = f.vars; clauses = cs }) trail (record { lists = lists; pairs = old.pairs ++ pair ∷ []; pending = pending })) (sym (take-with f.clauses n c at))
    (attached f.vars (take n f.clauses) c trail pair old lists grown pending ready watching (subst (λ (k : ℕ). Enters old.lists lists k c pair) (sym count) enters) grows more
    (λ active. subst (λ (k : ℕ). has pending k ≡ true) (sym count) (wakes active)))

-- literals at two places of a clause are two
pub apart-at : (vars : ℕ) (clause : List Literal) (i j : ℕ) (a b : Literal) → IsClause vars clause → i < j → j < length clause → a ≡ get_or clause i a → b ≡ get_or clause j b → a ≢ b
apart-at vars clause i j a b is before below at_i at_j same =
    let there_i : slice_get clause i ≡ Some a = slice_get-get_or clause i a (omega (arith, before, below)) ∙ ap (λ (z : Literal). Some z) (sym at_i) in
    let there_j : slice_get clause j ≡ Some b = slice_get-get_or clause j b below ∙ ap (λ (z : Literal). Some z) (sym at_j) in
    one-place vars clause i j b is (subst (λ (z : Literal). slice_get clause i ≡ Some z) same there_i) there_j (omega (arith, before))
