-- Below the current level no clause is active: no clause is under what stands on the trail up to a lower level.
use Rattle.std.proofs.Common.{◌≡◌, ◌≢◌, ℕ, zero, suc, ◌+◌, ◌%◌, ◌<◌, ◌≤◌, max, nat_lt, inl, inr, Bool, true, false, ◌==◌, cond, if◌then◌else◌, List, [], ◌∷◌, ◌++◌, length, get_or, map, filter, reverse, Some, slice_get, refl, sym, ◌∙◌, ap, subst, arith}
use Rattle.std.specs.Prelude.{nat_le, Contains}
use Rattle.std.proofs.lemmas.Bool.{cases_eq, cases_lt}
use Rattle.std.proofs.lemmas.Option.{slice_get-get_or}
use Rattle.std.proofs.lemmas.List.Elements.{All-contains}
use Rattle.bx_logic.proofs.Members.{Member, Member-map_cases, Member-append_cases, Member-filter_cases, Contains-from_member, Member-from_contains, Member-map, member_of_AllByRecursion}
use Rattle.bx_logic.proofs.Ordered.{Member-get_or}
use Rattle.bx_cnf.specs.Literals.{Literal, negated}
use Rattle.bx_cnf.specs.Formulas.{Formula}
use Rattle.bx_cnf.specs.Assignments.{IsFalse, IsActive}
use Rattle.bx_proof.specs.Steps.{Step}
use Rattle.bx_watch.specs.Watching.{NoneActive}
use Rattle.bx_search.specs.States.{Assigned, State, clauses_of, literals_of, level_after, current_level}
use Rattle.bx_search.specs.Learning.{treated_from, variables, highest, second_highest}
use Rattle.bx_search.specs.Searching.{Goes, After, IsConflict, up_to, jump_level, levels_from, learned}
use Rattle.bx_search.specs.Searching.Goes.{Propagates, Decides, Learns}
use Rattle.bx_search.proofs.Rising.{Rises, rises-after}
use Rattle.bx_search.proofs.Trails.{level-push, up_to-push}
use Rattle.bx_search.proofs.Tallies.{Apart}
use Rattle.bx_search.proofs.Leading.{kept-within, onto-left}
use Rattle.bx_search.proofs.Following.{from-reversed, backed-after, with-step}
use Rattle.bx_search.proofs.Walking.{apart-backed}

-- ---- levels of a trail

-- no level is above the last
pub rises-top : (low : ℕ) (trail : List Assigned) (a : Assigned) → Rises low trail → Member a trail → a.level ≤ level_after low trail
rises-top low [] a r h = absurd h
rises-top low (b ∷ trail) a r (inl e) = omega (arith, rises-low b.level trail r.1, ap (λ (z : Assigned). z.level) e) where
  rises-low : (from : ℕ) (rest : List Assigned) → Rises from rest → from ≤ level_after from rest
  rises-low from [] r = omega arith
  rises-low from (c ∷ rest) r = omega (arith, r.0, rises-low c.level rest r.1)
rises-top low (b ∷ trail) a r (inr h) = rises-top b.level trail a r.1 h

level-bounded : (low top : ℕ) (trail : List Assigned) → low ≤ top → ((a : Assigned) → Member a trail → a.level ≤ top) → level_after low trail ≤ top
level-bounded low top [] l each = l
level-bounded low top (a ∷ trail) l each = level-bounded a.level top trail (each a (inl refl)) (λ b h. each b (inr h))

le-is : (m n : ℕ) → nat_le m n ≡ true → m ≤ n
le-is m n e = grind (arith, e)

pub le-true : (m n : ℕ) → m ≤ n → nat_le m n ≡ true
le-true m n h = grind (arith, h)

lt-is : (m n : ℕ) → nat_lt m n ≡ true → m < n
lt-is m n e = grind (arith, e)

pub up_to-level : (level : ℕ) (trail : List Assigned) (a : Assigned) → Member a (up_to level trail) → Member a trail × (a.level ≤ level)
up_to-level level trail a h = let (on, low) = Member-filter_cases (λ (z : Assigned). nat_le z.level level) a trail h in (on, le-is a.level level low)

up_to-all : (level : ℕ) (trail : List Assigned) → ((a : Assigned) → Member a trail → a.level ≤ level) → up_to level trail ≡ trail
up_to-all level [] each = refl
up_to-all level (a ∷ trail) each = rw (le-true a.level level (each a (inl refl))) (ap (λ ts. a ∷ ts) (up_to-all level trail (λ b h. each b (inr h))))

-- of what stands up to a level, what stands up to a lower one
up_to-lower : (low high : ℕ) (trail : List Assigned) → low ≤ high → up_to low (up_to high trail) ≡ up_to low trail
up_to-lower low high [] l = refl
up_to-lower low high (a ∷ trail) l = cases (nat_le a.level high) (nat_le a.level low) refl refl (up_to-lower low high trail l) where
  no : true ≡ false → ⊥
  no h = cc

  cases : (p q : Bool) → nat_le a.level high ≡ p → nat_le a.level low ≡ q → up_to low (up_to high trail) ≡ up_to low trail
      → up_to low (cond p (a ∷ up_to high trail) (up_to high trail)) ≡ cond q (a ∷ up_to low trail) (up_to low trail)
  cases true true h k e = rw k (ap (λ ts. a ∷ ts) e)
  cases true false h k e = rw k e
  cases false true h k e = absurd (no (sym (le-true a.level high (omega (arith, l, le-is a.level low k))) ∙ h))
  cases false false h k e = e

-- ---- what a level hasn't assigned

-- an entry of a trail is given by its variable
pub one-entry : (rest : List Assigned) (a b : Assigned) → Apart rest → Member a rest → Member b rest → a.literal.var ≡ b.literal.var → a ≡ b
one-entry [] a b apart h k e = absurd h
one-entry (c ∷ rest) a b apart (inl x) (inl y) e = sym x ∙ y
one-entry (c ∷ rest) a b apart (inl x) (inr k) e =
    absurd (member_of_AllByRecursion (λ (z : Assigned). z.literal.var ≢ c.literal.var) b rest apart.0 k (sym e ∙ ap (λ (z : Assigned). z.literal.var) (sym x)))
one-entry (c ∷ rest) a b apart (inr h) (inl y) e =
    absurd (member_of_AllByRecursion (λ (z : Assigned). z.literal.var ≢ c.literal.var) a rest apart.0 h (e ∙ ap (λ (z : Assigned). z.literal.var) (sym y)))
one-entry (c ∷ rest) a b apart (inr h) (inr k) e = one-entry rest a b apart.1 h k e

pub same-entry : (trail : List Assigned) (a b : Assigned) → Apart (reverse trail) → Member a trail → Member b trail → a.literal.var ≡ b.literal.var → a ≡ b
same-entry trail a b apart h k e = one-entry (reverse trail) a b apart (onto-left a trail [] h) (onto-left b trail [] k) e

-- nothing up to a level is over the variable of an entry above it
pub not-yet : (level : ℕ) (trail : List Assigned) (a : Assigned) (l : Literal) → Apart (reverse trail) → Member a trail → level < a.level → l.var ≡ a.literal.var
    → Contains (literals_of (up_to level trail)) l → ⊥
not-yet level trail a l apart on high same has =
    let (b, in_low, is) = Member-map_cases (λ (z : Assigned). z.literal) l (up_to level trail) (Member-from_contains l (literals_of (up_to level trail)) has) in
    let (in_trail, low) = up_to-level level trail b in_low in
    let one : b ≡ a = same-entry trail b a apart in_trail on (ap (λ (z : Literal). z.var) is ∙ same) in
    omega (arith, high, low, ap (λ (z : Assigned). z.level) one)

-- a clause of which two literals aren't false isn't active
pub two-left : (trues clause : List Literal) (x y : Literal) → Member x clause → Member y clause → x ≢ y → (IsFalse trues x → ⊥) → (IsFalse trues y → ⊥) → IsActive trues clause → ⊥
two-left trues clause x y in_x in_y differ free_x free_y (inl fails) = free_x (All-contains (IsFalse trues) clause x fails (Contains-from_member x clause in_x))
two-left trues clause x y in_x in_y differ free_x free_y (inr (l, unit)) =
    differ (is-left x in_x free_x ∙ sym (is-left y in_y free_y))
  where
    some-same : (a b : Literal) → Some a ≡ Some b → a ≡ b
    some-same a b e = cc

    is-left : (m : Literal) → Member m clause → (IsFalse trues m → ⊥) → m ≡ l
    is-left m h free =
        let (k, below, at) = Contains-from_member m clause h in
        let stands : slice_get clause k ≡ Some m = slice_get-get_or clause k m below ∙ ap Some at in
        elim (cases_eq k unit.0.place) [
          | inl here ↦ some-same m l (sym stands ∙ ap (slice_get clause) here ∙ unit.0.stands)
          | inr other ↦ absurd (free (unit.0.others k m stands other))
        ]

-- ---- two of the levels of what is kept

highest-of : (levels : List ℕ) → 0 < highest levels → Member (highest levels) levels
highest-of [] h = absurd (omega (arith, h))
highest-of (level ∷ levels) h = elim (cases_lt level (highest levels)) [
  | inl low ↦ (let top : max level (highest levels) ≡ highest levels = omega (arith, low) in
      inr (subst (λ n. Member n levels) (sym top) (highest-of levels (omega (arith, low)))))
  | inr high ↦ inl (omega (arith, high))
]

two-levels : (levels : List ℕ) (low : ℕ) → low < second_highest levels → (one : ℕ) × (two : ℕ) × Member one levels × Member two levels × (low < one) × (one < two)
two-levels levels low h =
    let second : ℕ = second_highest levels in
    let (in_levels, below) = Member-filter_cases (λ level. nat_lt level (highest levels)) second levels (highest-of (filter (λ level. nat_lt level (highest levels)) levels) (omega (arith, h))) in
    let less : second < highest levels = lt-is second (highest levels) below in
    (second, highest levels, in_levels, highest-of levels (omega (arith, less)), h, less)

jump-second : (count : ℕ) (levels : List ℕ) (low : ℕ) → low < jump_level count levels → low < second_highest levels
jump-second count levels low h = cases ((count % 64) == 0) h where
  cases : (b : Bool) → low < (if b then 0 else second_highest levels) → low < second_highest levels
  cases true h = absurd (omega (arith, h))
  cases false h = h

-- ---- each event keeps it

-- no clause is active up to a level below the current one
abbrev pub IsQuietBelow : Formula → State → Type 0
IsQuietBelow formula s = (level : ℕ) → level < current_level s.trail → NoneActive (literals_of (up_to level s.trail)) (clauses_of formula s)

-- a literal more, of the current level or of the next one
quiet_below-push : (clauses : List (List Literal)) (trail : List Assigned) (a : Assigned) (level : ℕ) → level < current_level (trail ++ a ∷ []) → NoneActive (literals_of (up_to level trail)) clauses
    → NoneActive (literals_of (up_to level (trail ++ a ∷ []))) clauses
quiet_below-push clauses trail a level low none =
    subst (λ (t : List Assigned). NoneActive (literals_of t) clauses) (sym (up_to-push level trail a (omega (arith, low, level-push 0 trail a)))) none

-- what is learned isn't active below the level that the search goes back to
learned-quiet : (clauses : List (List Literal)) (trail : List Assigned) (id : ℕ) (step : Step) (level : ℕ) → Apart (reverse trail)
    → ((l : Literal) → Contains (map (λ (a : Assigned). negated a.literal) (treated_from clauses trail id).kept) l → Contains step.literals l)
    → level < second_highest (levels_from clauses trail id) → IsActive (literals_of (up_to level trail)) step.literals → ⊥
learned-quiet clauses trail id step level apart has low =
    let (one, two, in_one, in_two, above, less) = two-levels (levels_from clauses trail id) level low in
    let (a, keeps_a, is_a) = Member-map_cases (λ (z : Assigned). z.level) one (treated_from clauses trail id).kept in_one in
    let (b, keeps_b, is_b) = Member-map_cases (λ (z : Assigned). z.level) two (treated_from clauses trail id).kept in_two in
    two-left (literals_of (up_to level trail)) step.literals (negated a.literal) (negated b.literal) (literal a keeps_a) (literal b keeps_b)
    (λ e. omega (arith, less, is_a, is_b, ap (λ (z : Assigned). z.level) (same-entry trail a b apart (on-trail a keeps_a) (on-trail b keeps_b) (ap (λ (z : Literal). z.var) e))))
    (not-yet level trail a (negated (negated a.literal)) apart (on-trail a keeps_a) (omega (arith, above, is_a)) refl)
    (not-yet level trail b (negated (negated b.literal)) apart (on-trail b keeps_b) (omega (arith, above, less, is_b)) refl)
  where
    on-trail : (a : Assigned) → Member a (treated_from clauses trail id).kept → Member a trail
    on-trail a h = from-reversed trail a (kept-within clauses (current_level trail) (variables clauses id) (reverse trail) a h)

    literal : (a : Assigned) → Member a (treated_from clauses trail id).kept → Member (negated a.literal) step.literals
    literal a h = Member-from_contains (negated a.literal) step.literals (has (negated a.literal)
        (Contains-from_member (negated a.literal) (map (λ (z : Assigned). negated z.literal) (treated_from clauses trail id).kept) (Member-map (λ (z : Assigned). negated z.literal) a (treated_from clauses trail id).kept h)))

none-more : (trues : List Literal) (clauses : List (List Literal)) (clause : List Literal) → NoneActive trues clauses → (IsActive trues clause → ⊥) → NoneActive trues (clauses ++ clause ∷ [])
none-more trues clauses clause none last = λ k d below.
    elim (Member-append_cases (get_or (clauses ++ clause ∷ []) k d) clauses (clause ∷ []) (Member-get_or (clauses ++ clause ∷ []) k d below)) [
      | inl before ↦ All-contains (λ (c : List Literal). IsActive trues c → ⊥) clauses (get_or (clauses ++ clause ∷ []) k d) none (Contains-from_member (get_or (clauses ++ clause ∷ []) k d) clauses before)
      | inr here ↦ elim here [ inl e ↦ subst (λ (c : List Literal). IsActive trues c → ⊥) e last | inr absent ↦ absurd absent ]
    ]

-- the level that the search goes back to
abbrev jump_from : Formula → State → ℕ → ℕ
jump_from formula s id = jump_level (length s.steps + 1) (levels_from (clauses_of formula s) s.trail id)

quiet_below-learned : (formula : Formula) (s : State) (id : ℕ) (step : Step) → Apart (reverse s.trail) → Rises 0 s.trail → IsConflict formula s id step → IsQuietBelow formula s
    → IsQuietBelow formula (learned formula s id step)
quiet_below-learned formula s id step apart rises conflict lower level low =
    subst (λ (cs : List (List Literal)). NoneActive (literals_of (up_to level (up_to (jump_from formula s id) s.trail))) cs) (with-step formula.clauses s.steps step)
    (subst (λ (t : List Assigned). NoneActive (literals_of t) (clauses_of formula s ++ step.literals ∷ [])) (sym (up_to-lower level (jump_from formula s id) s.trail (omega (arith, below))))
    (none-more (literals_of (up_to level s.trail)) (clauses_of formula s) step.literals
    (lower level (omega (arith, low, still)))
    (learned-quiet (clauses_of formula s) s.trail id step level apart (λ l. (conflict.learned.kept l).1) (jump-second (length s.steps + 1) (levels_from (clauses_of formula s) s.trail id) level below))))
  where
    top : current_level (up_to (jump_from formula s id) s.trail) ≤ (jump_from formula s id)
    top = level-bounded 0 (jump_from formula s id) (up_to (jump_from formula s id) s.trail) (omega arith) (λ a h. (up_to-level (jump_from formula s id) s.trail a h).1)

    below : level < (jump_from formula s id)
    below = omega (arith, low, top)

    still : current_level (up_to (jump_from formula s id) s.trail) ≤ current_level s.trail
    still = level-bounded 0 (current_level s.trail) (up_to (jump_from formula s id) s.trail) (omega arith) (λ a h. rises-top 0 s.trail a rises (up_to-level (jump_from formula s id) s.trail a h).0)

quiet_below-decided : (clauses : List (List Literal)) (trail : List Assigned) (a : Assigned) → Rises 0 trail → a.level ≡ current_level trail + 1 → NoneActive (literals_of trail) clauses
    → ((level : ℕ) → level < current_level trail → NoneActive (literals_of (up_to level trail)) clauses)
    → (level : ℕ) → level < current_level (trail ++ a ∷ []) → NoneActive (literals_of (up_to level (trail ++ a ∷ []))) clauses
quiet_below-decided clauses trail a rises next quiet lower level low = quiet_below-push clauses trail a level low (elim (cases_eq level (current_level trail)) [
  | inl same ↦ subst (λ (t : List Assigned). NoneActive (literals_of t) clauses)
      (sym (up_to-all level trail (λ b h. omega (arith, same, rises-top 0 trail b rises h)))) quiet
  | inr other ↦ lower level (omega (arith, low, next, other, level-push 0 trail a))
])

quiet_below-same : (clauses : List (List Literal)) (trail : List Assigned) (a : Assigned) → a.level ≡ current_level trail
    → ((level : ℕ) → level < current_level trail → NoneActive (literals_of (up_to level trail)) clauses)
    → (level : ℕ) → level < current_level (trail ++ a ∷ []) → NoneActive (literals_of (up_to level (trail ++ a ∷ []))) clauses
quiet_below-same clauses trail a same lower level low = quiet_below-push clauses trail a level low (lower level (omega (arith, low, same, level-push 0 trail a)))

quiet_below-goes : (formula : Formula) (budget events : ℕ) (s t : State) → After formula budget events s → Goes formula budget s t → IsQuietBelow formula s → IsQuietBelow formula t
quiet_below-goes formula budget events s t after (Propagates id l least next) lower =
    subst (IsQuietBelow formula) (sym next) (quiet_below-same (clauses_of formula s) s.trail _ refl lower)
quiet_below-goes formula budget events s t after (Decides var quiet first next) lower =
    subst (IsQuietBelow formula) (sym next) (quiet_below-decided (clauses_of formula s) s.trail _ (rises-after formula budget events s after) refl quiet lower)
quiet_below-goes formula budget events s t after (Learns id step conflict within some next) lower =
    subst (IsQuietBelow formula) (sym next) (quiet_below-learned formula s id step (apart-backed (clauses_of formula s) (reverse s.trail) (backed-after formula budget events s after)) (rises-after formula budget events s after) conflict lower)

pub quiet_below-after : (formula : Formula) (budget events : ℕ) (s : State) → After formula budget events s → IsQuietBelow formula s
quiet_below-after formula budget zero s is = subst (IsQuietBelow formula) (sym is) (λ level low. absurd (omega (arith, low)))
quiet_below-after formula budget (suc events) s (before, after, goes) =
    quiet_below-goes formula budget events before s after goes (quiet_below-after formula budget events before after)
