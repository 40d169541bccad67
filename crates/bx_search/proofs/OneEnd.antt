-- The search has one end: an event makes one state of a state, and where there is an end there is no event.
use Rattle.std.proofs.Common.{◌≡◌, ℕ, zero, suc, ◌+◌, ◌<◌, inl, inr, List, [], ◌∷◌, ◌++◌, length, Some, None, refl, sym, ◌∙◌, ap, ap₂, subst, arith}
use Rattle.std.proofs.lemmas.Bool.{cases_order}
use Rattle.bx_logic.proofs.Members.{Member, Contains-from_member, Member-from_contains}
use Rattle.bx_cnf.specs.Literals.{Literal}
use Rattle.bx_cnf.specs.Formulas.{Formula, AscendAbove}
use Rattle.bx_proof.specs.Steps.{Step}
use Rattle.bx_watch.specs.declared.active.Active.{Active}
use Rattle.bx_watch.specs.declared.active.Active.TheVariants.{Unit, False}
use Rattle.bx_watch.specs.Watching.{IsLeastActive}
use Rattle.bx_watch.proofs.Firsts.{one_least, least-is_active}
use Rattle.bx_search.specs.declared.outcome.Outcome.{Outcome}
use Rattle.bx_search.specs.declared.outcome.Outcome.TheVariants.{Sat, Unsat, Undecided, Stopped}
use Rattle.bx_search.specs.States.{Assigned, State, clauses_of, watch_of}
use Rattle.bx_search.specs.Learning.{IsLearned}
use Rattle.bx_search.specs.Searching.{Goes, Ends, After, IsSearch, IsConflict, IsQuiet, propagated, decided, learned, cost}
use Rattle.bx_search.specs.Searching.Goes.{Propagates, Decides, Learns}

-- literals that ascend are above where they begin
pub above : (low : ℕ) (ls : List Literal) (l : Literal) → AscendAbove low ls → Member l ls → low < l.var
above low [] l a h = absurd h
above low (m ∷ ls) l a (inl e) = subst (λ (x : Literal). low < x.var) e a.0
above low (m ∷ ls) l a (inr h) = let rest = above m.var ls l a.1 h in omega (arith, a.0, rest)

abbrev AreSame : List Literal → List Literal → Type 0
AreSame xs ys = ((l : Literal) → Member l xs → Member l ys) × ((l : Literal) → Member l ys → Member l xs)

first-same : (low : ℕ) (x y : Literal) (xs ys : List Literal) → AscendAbove low (x ∷ xs) → AscendAbove low (y ∷ ys) → AreSame (x ∷ xs) (y ∷ ys) → x ≡ y
first-same low x y xs ys a b same = elim (same.0 x (inl refl)) [
  | inl e ↦ sym e
  | inr h ↦ elim (same.1 y (inl refl)) [
    | inl e ↦ e
    | inr k ↦ (let p = above y.var ys x b.1 h in let q = above x.var xs y a.1 k in absurd (omega (arith, p, q)))
  ]
]

rest-within : (x : Literal) (xs ys : List Literal) → AscendAbove x.var xs → ((l : Literal) → Member l (x ∷ xs) → Member l (x ∷ ys)) → (l : Literal) → Member l xs → Member l ys
rest-within x xs ys a within l h = elim (within l (inr h)) [
  | inl e ↦ (let p = above x.var xs l a h in let v = ap (λ (z : Literal). z.var) e in absurd (omega (arith, p, v)))
  | inr k ↦ k
]

-- ascending literals are given by which they are
pub one-ascending : (low : ℕ) (xs ys : List Literal) → AscendAbove low xs → AscendAbove low ys → AreSame xs ys → xs ≡ ys
one-ascending low [] [] a b same = refl
one-ascending low [] (y ∷ ys) a b same = absurd (same.1 y (inl refl))
one-ascending low (x ∷ xs) [] a b same = absurd (same.0 x (inl refl))
one-ascending low (x ∷ xs) (y ∷ ys) a b same =
    let e : x ≡ y = first-same low x y xs ys a b same in
    let c : AscendAbove x.var ys = subst (λ (z : Literal). AscendAbove z.var ys) (sym e) b.1 in
    let same_x : AreSame (x ∷ xs) (x ∷ ys) = subst (λ (z : Literal). AreSame (x ∷ xs) (z ∷ ys)) (sym e) same in
    ap₂ (λ z zs. z ∷ zs) e (one-ascending x.var xs ys a.1 c (rest-within x xs ys a.1 same_x.0, rest-within x ys xs c same_x.1))

-- one step is learned from a false clause
one-learned : (clauses : List (List Literal)) (trail : List Assigned) (id : ℕ) (one other : Step) → IsLearned clauses trail id one → IsLearned clauses trail id other → one ≡ other
one-learned clauses trail id one other a b =
    ap₂ (λ ls hs. record { literals = ls; hints = hs })
    (one-ascending 0 one.literals other.literals a.ascending b.ascending (
      λ l h. Member-from_contains l other.literals ((b.kept l).1 ((a.kept l).0 (Contains-from_member l one.literals h))),
      λ l h. Member-from_contains l one.literals ((a.kept l).1 ((b.kept l).0 (Contains-from_member l other.literals h))),
    ))
    (a.hints ∙ sym b.hints)

-- one conflict
one-id : (formula : Formula) (s : State) (i j : ℕ) (one other : Step) → IsConflict formula s i one → IsConflict formula s j other → i ≡ j
one-id formula s i j one other a b = number i j (one_least (watch_of formula s) (False i) (False j) a.least b.least) where
  number : (m n : ℕ) → False m ≡ False n → m ≡ n
  number m n e = cc

one-step : (formula : Formula) (s : State) (i j : ℕ) (one other : Step) → IsConflict formula s i one → IsConflict formula s j other → one ≡ other
one-step formula s i j one other a b =
    one-learned (clauses_of formula s) s.trail i one other a.learned
    (subst (λ k. IsLearned (clauses_of formula s) s.trail k other) (sym (one-id formula s i j one other a b)) b.learned)

unit-false : (formula : Formula) (s : State) (i j : ℕ) (l : Literal) → IsLeastActive (watch_of formula s) (Unit i l) → IsLeastActive (watch_of formula s) (False j) → ⊥
unit-false formula s i j l a b = differ (one_least (watch_of formula s) (Unit i l) (False j) a b) where
  differ : Unit i l ≡ False j → ⊥
  differ e = cc

quiet-active : (formula : Formula) (s : State) (active : Active) → IsQuiet formula s → IsLeastActive (watch_of formula s) active → ⊥
quiet-active formula s active quiet least = least-is_active (watch_of formula s) active least quiet

one-unit : (formula : Formula) (s : State) (i j : ℕ) (l m : Literal) → IsLeastActive (watch_of formula s) (Unit i l) → IsLeastActive (watch_of formula s) (Unit j m) → (i ≡ j) × (l ≡ m)
one-unit formula s i j l m a b = parts (one_least (watch_of formula s) (Unit i l) (Unit j m) a b) where
  parts : Unit i l ≡ Unit j m → (i ≡ j) × (l ≡ m)
  parts e = (cc, cc)

some-same : (a b : ℕ) → Some a ≡ Some b → a ≡ b
some-same a b e = cc

none-some : (a : ℕ) → None ≡ Some a → ⊥
none-some a e = cc

-- an event makes one state
pub one-event : (formula : Formula) (budget : ℕ) (s t u : State) → Goes formula budget s t → Goes formula budget s u → t ≡ u
one-event formula budget s t u (Propagates i l a e) (Propagates j m b f) =
    let same = one-unit formula s i j l m a b in e ∙ ap₂ (propagated s) same.0 same.1 ∙ sym f
one-event formula budget s t u (Propagates i l a e) (Decides var quiet first f) = absurd (quiet-active formula s (Unit i l) quiet a)
one-event formula budget s t u (Propagates i l a e) (Learns j step b within some f) = absurd (unit-false formula s i j l a b.least)
one-event formula budget s t u (Decides var quiet first e) (Propagates j m b f) = absurd (quiet-active formula s (Unit j m) quiet b)
one-event formula budget s t u (Decides var quiet first e) (Decides other hush second f) =
    e ∙ ap (decided s) (some-same var other (sym first ∙ second)) ∙ sym f
one-event formula budget s t u (Decides var quiet first e) (Learns j step b within some f) = absurd (quiet-active formula s (False j) quiet b.least)
one-event formula budget s t u (Learns i step a within some e) (Propagates j m b f) = absurd (unit-false formula s j i m b a.least)
one-event formula budget s t u (Learns i step a within some e) (Decides var quiet first f) = absurd (quiet-active formula s (False i) quiet a.least)
one-event formula budget s t u (Learns i step a within some e) (Learns j other b inside more f) =
    e ∙ ap₂ (learned formula s) (one-id formula s i j step other a b) (one-step formula s i j step other a b) ∙ sym f

-- after an end there is no event
pub no-event : (formula : Formula) (budget : ℕ) (s t : State) (end : Outcome) → Ends formula budget s end → Goes formula budget s t → ⊥
no-event formula budget s t (Sat bits) ends (Propagates j m b f) = quiet-active formula s (Unit j m) ends.0 b
no-event formula budget s t (Sat bits) ends (Decides var quiet first f) = none-some var (sym ends.1 ∙ first)
no-event formula budget s t (Sat bits) ends (Learns j step b within some f) = quiet-active formula s (False j) ends.0 b.least
no-event formula budget s t (Unsat log) (i, one, a, inside, empty, is) (Propagates j m b f) = unit-false formula s j i m b a.least
no-event formula budget s t (Unsat log) (i, one, a, inside, empty, is) (Decides var quiet first f) = quiet-active formula s (False i) quiet a.least
no-event formula budget s t (Unsat log) (i, one, a, inside, empty, is) (Learns j step b within some f) =
    some (ap (λ (x : Step). x.literals) (sym (one-step formula s i j one step a b)) ∙ empty)
no-event formula budget s t (Undecided n) (i, one, a, beyond, is) (Propagates j m b f) = unit-false formula s j i m b a.least
no-event formula budget s t (Undecided n) (i, one, a, beyond, is) (Decides var quiet first f) = quiet-active formula s (False i) quiet a.least
no-event formula budget s t (Undecided n) (i, one, a, beyond, is) (Learns j step b within some f) =
    let same : cost one ≡ cost step = ap cost (one-step formula s i j one step a b) in omega (arith, beyond, within, same)
no-event formula budget s t Stopped ends goes = ends

-- a state ends in one way
pub one-outcome : (formula : Formula) (budget : ℕ) (s : State) (end other : Outcome) → Ends formula budget s end → Ends formula budget s other → end ≡ other
one-outcome formula budget s (Sat bits) (Sat more) a b = ap Sat (a.2 ∙ sym b.2)
one-outcome formula budget s (Sat bits) (Unsat log) a (j, two, b, inside, empty, is) = absurd (quiet-active formula s (False j) a.0 b.least)
one-outcome formula budget s (Sat bits) (Undecided n) a (j, two, b, beyond, is) = absurd (quiet-active formula s (False j) a.0 b.least)
one-outcome formula budget s (Unsat log) (Sat bits) (i, one, a, inside, empty, is) b = absurd (quiet-active formula s (False i) b.0 a.least)
one-outcome formula budget s (Unsat log) (Unsat more) (i, one, a, inside, empty, is) (j, two, b, within, void, are) =
    ap Unsat (is ∙ ap (λ (x : Step). record { first = length formula.clauses + 1; steps = s.steps ++ x ∷ [] }) (one-step formula s i j one two a b) ∙ sym are)
one-outcome formula budget s (Unsat log) (Undecided n) (i, one, a, inside, empty, is) (j, two, b, beyond, are) =
    let same : cost one ≡ cost two = ap cost (one-step formula s i j one two a b) in absurd (omega (arith, inside, beyond, same))
one-outcome formula budget s (Undecided n) (Sat bits) (i, one, a, beyond, is) b = absurd (quiet-active formula s (False i) b.0 a.least)
one-outcome formula budget s (Undecided n) (Unsat log) (i, one, a, beyond, is) (j, two, b, inside, empty, are) =
    let same : cost one ≡ cost two = ap cost (one-step formula s i j one two a b) in absurd (omega (arith, inside, beyond, same))
one-outcome formula budget s (Undecided n) (Undecided m) (i, one, a, beyond, is) (j, two, b, above, are) = ap Undecided (is ∙ sym are)
one-outcome formula budget s Stopped other a b = absurd a
one-outcome formula budget s (Sat bits) Stopped a b = absurd b
one-outcome formula budget s (Unsat log) Stopped a b = absurd b
one-outcome formula budget s (Undecided n) Stopped a b = absurd b

-- one state after so many events
pub one-after : (formula : Formula) (budget events : ℕ) (s t : State) → After formula budget events s → After formula budget events t → s ≡ t
one-after formula budget zero s t a b = a ∙ sym b
one-after formula budget (suc events) s t (r, a, go) (q, b, went) =
    one-event formula budget r s t go (subst (λ (x : State). Goes formula budget x t) (sym (one-after formula budget events r q a b)) went)

-- on the way to later states each one had an event
on-the-way : (formula : Formula) (budget early late : ℕ) (s t : State) → After formula budget early s → After formula budget late t → early < late → (u : State) × Goes formula budget s u
on-the-way formula budget early zero s t a b l = absurd (omega (arith, l))
on-the-way formula budget early (suc late) s t a (q, b, went) l = elim (cases_order early late) [
  | inl same ↦ (t, subst (λ (x : State). Goes formula budget x t) (one-after formula budget late q s b (subst (λ k. After formula budget k s) same a)) went)
  | inr (inl before) ↦ on-the-way formula budget early late s q a b before
  | inr (inr behind) ↦ absurd (omega (arith, l, behind))
]

pub no-later : (formula : Formula) (budget early late : ℕ) (s t : State) (end : Outcome) → After formula budget early s → Ends formula budget s end → After formula budget late t → early < late → ⊥
no-later formula budget early late s t end a ends b l = let (u, goes) = on-the-way formula budget early late s t a b l in no-event formula budget s u end ends goes

one-last : (formula : Formula) (budget m n : ℕ) (end other : Outcome) (one : IsSearch formula budget end m) (two : IsSearch formula budget other n) → one.last ≡ two.last
one-last formula budget m n end other one two = elim (cases_order one.events two.events) [
  | inl same ↦ one-after formula budget two.events one.last two.last (subst (λ k. After formula budget k one.last) same one.after) two.after
  | inr (inl before) ↦ absurd (no-later formula budget one.events two.events one.last two.last end one.after one.ends two.after before)
  | inr (inr behind) ↦ absurd (no-later formula budget two.events one.events two.last one.last other two.after two.ends one.after behind)
]

pub one-end : (formula : Formula) (budget m n : ℕ) (end other : Outcome) → IsSearch formula budget end m → IsSearch formula budget other n → (end ≡ other) × (m ≡ n)
one-end formula budget m n end other one two =
    let same : one.last ≡ two.last = one-last formula budget m n end other one two in (
      one-outcome formula budget two.last end other (subst (λ (x : State). Ends formula budget x end) same one.ends) two.ends,
      one.count ∙ ap (λ (x : State). length x.steps) same ∙ sym two.count,
    )
