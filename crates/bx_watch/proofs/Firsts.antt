-- The least-numbered active clause is one, and as one thing.
use Rattle.std.proofs.Common.{◌≡◌, ℕ, zero, suc, ◌+◌, ◌-◌, ◌<◌, List, [], ◌∷◌, length, get_or, take, Some, None, slice_get, ◌++◌, length-take, sym, ◌∙◌, ap, subst, inl, inr, arith}
use Rattle.std.specs.Prelude.{Contains}
use Rattle.std.proofs.lemmas.Bool.{cases_order}
use Rattle.std.proofs.lemmas.List.{take_more}
use Rattle.std.proofs.lemmas.Option.{get_or_from_slice_get}
use Rattle.std.proofs.lemmas.List.Elements.{All-contains}
use Rattle.bx_cnf.specs.Literals.{Literal}
use Rattle.bx_cnf.specs.Assignments.{IsFalse, IsClauseFalse, LeavesOne, IsUnit, IsActive}
use Rattle.bx_watch.specs.declared.active.Active.{Active}
use Rattle.bx_watch.specs.declared.active.Active.TheVariants.{Unit, False}
use Rattle.bx_watch.specs.Watching.{Watch, NoneActive, IsFirst, IsLeastActive}
use Rattle.bx_watch.proofs.ClauseReads.{left_or_false, contains-at}

-- a clause that stands before another is one of those before it
stands-before : (clauses : List (List Literal)) (i j : ℕ) (clause : List Literal) → i < j → slice_get clauses i ≡ Some clause → Contains (take j clauses) clause
stands-before [] i j clause before is = absurd (none_some clause is) where
  none_some : (c : List Literal) → None ≡ Some c → ⊥
  none_some c e = cc
stands-before (c ∷ cs) i zero clause before is = absurd (omega (arith, before))
stands-before (c ∷ cs) zero (suc j) clause before is = (0, omega arith, some-same c clause is) where
  some-same : (a b : List Literal) → Some a ≡ Some b → a ≡ b
  some-same a b e = cc
stands-before (c ∷ cs) (suc i) (suc j) clause before is =
    let (k, below, at) = stands-before cs i j clause (omega (arith, before)) is in (suc k, omega (arith, below), at)

-- what is so of a first clause makes it active
abbrev IsActiveWhere : Watch → (List Literal → Type 0) → Type 0
IsActiveWhere w IsSo = (clause : List Literal) → IsSo clause → IsActive w.trail clause

not_before : (w : Watch) (i j : ℕ) (P Q : List Literal → Type 0) → IsActiveWhere w P → IsFirst w i P → IsFirst w j Q → i < j → ⊥
not_before w i j P Q active one other before =
    All-contains (λ clause. IsActive w.trail clause → ⊥) (take (j - 1) w.clauses) one.clause other.none_before
    (stands-before w.clauses (i - 1) (j - 1) one.clause (omega (arith, before, one.above)) one.stands)
    (active one.clause one.is_so)

-- two first clauses have one number, and are one clause
same_number : (w : Watch) (i j : ℕ) (P Q : List Literal → Type 0) → IsActiveWhere w P → IsActiveWhere w Q → IsFirst w i P → IsFirst w j Q → i ≡ j
same_number w i j P Q p q one other = elim (cases_order i j) [
  | inl same ↦ same
  | inr (inl before) ↦ absurd (not_before w i j P Q p one other before)
  | inr (inr behind) ↦ absurd (not_before w j i Q P q other one behind)
]

same_clause : (w : Watch) (i j : ℕ) (P Q : List Literal → Type 0) (one : IsFirst w i P) (other : IsFirst w j Q) → i ≡ j → one.clause ≡ other.clause
same_clause w i j P Q one other same = some-same one.clause other.clause (sym one.stands ∙ (ap (λ k. slice_get w.clauses (k - 1)) same ∙ other.stands)) where
  some-same : (a b : List Literal) → Some a ≡ Some b → a ≡ b
  some-same a b e = cc

unit-active : (w : Watch) (l : Literal) → IsActiveWhere w (λ clause. IsUnit w.trail clause l)
unit-active w l clause unit = inr (l, unit)

false-active : (w : Watch) → IsActiveWhere w (IsClauseFalse w.trail)
false-active w clause fails = inl fails

-- a clause that leaves a literal has it
leaves-contains : (trail clause : List Literal) (l : Literal) → LeavesOne trail clause l → Contains clause l
leaves-contains trail clause l leaves = contains-at clause leaves.place l leaves.stands

one_literal : (trail clause : List Literal) (l m : Literal) → LeavesOne trail clause l → LeavesOne trail clause m → l ≡ m
one_literal trail clause l m one other = elim (left_or_false trail clause l m one (leaves-contains trail clause m other)) [
  | inl same ↦ same
  | inr fails ↦ absurd (other.this fails)
]

never_unit_and_false : (trail clause : List Literal) (l : Literal) → LeavesOne trail clause l → IsClauseFalse trail clause → ⊥
never_unit_and_false trail clause l leaves fails = leaves.this (All-contains (IsFalse trail) clause l fails (leaves-contains trail clause l leaves))

pub one_least : (w : Watch) (one other : Active) → IsLeastActive w one → IsLeastActive w other → one ≡ other
one_least w (Unit i l) (Unit j m) one other =
    let same = same_number w i j _ _ (unit-active w l) (unit-active w m) one other in
    let leaves : LeavesOne w.trail one.clause m = subst (λ (c : List Literal). LeavesOne w.trail c m) (sym (same_clause w i j _ _ one other same)) other.is_so.0 in
    ap (λ k. Unit k l) same ∙ ap (Unit j) (one_literal w.trail one.clause l m one.is_so.0 leaves)
one_least w (Unit i l) (False j) one other =
    let same = same_number w i j _ _ (unit-active w l) (false-active w) one other in
    absurd (never_unit_and_false w.trail other.clause l (subst (λ (c : List Literal). LeavesOne w.trail c l) (same_clause w i j _ _ one other same) one.is_so.0) other.is_so)
one_least w (False i) (Unit j m) one other =
    let same = same_number w i j _ _ (false-active w) (unit-active w m) one other in
    absurd (never_unit_and_false w.trail one.clause m (subst (λ (c : List Literal). LeavesOne w.trail c m) (sym (same_clause w i j _ _ one other same)) other.is_so.0) one.is_so)
one_least w (False i) (False j) one other = ap False (same_number w i j _ _ (false-active w) (false-active w) one other)

has-stands : (clauses : List (List Literal)) (k : ℕ) (clause : List Literal) → slice_get clauses k ≡ Some clause → Contains clauses clause
has-stands clauses k clause is = let (n, below, at) = stands-before clauses k (suc k) clause (omega arith) is in contains_of_take clauses (suc k) n clause below at where
  contains_of_take : (cs : List (List Literal)) (j n : ℕ) (c : List Literal) → n < length (take j cs) → get_or (take j cs) n c ≡ c → Contains cs c
  contains_of_take [] j n c below at = absurd (omega (arith, below, length-take {A = List Literal} j []))
  contains_of_take (d ∷ ds) zero n c below at = absurd (omega (arith, below))
  contains_of_take (d ∷ ds) (suc j) zero c below at = (0, omega arith, at)
  contains_of_take (d ∷ ds) (suc j) (suc n) c below at = let (m, within, here) = contains_of_take ds j n c (omega (arith, below)) at in (suc m, omega (arith, within), here)

not_none : (w : Watch) (id : ℕ) (P : List Literal → Type 0) → IsActiveWhere w P → IsFirst w id P → NoneActive w.trail w.clauses → ⊥
not_none w id P active first none =
    All-contains (λ clause. IsActive w.trail clause → ⊥) w.clauses first.clause none (has-stands w.clauses (id - 1) first.clause first.stands) (active first.clause first.is_so)

pub least-is_active : (w : Watch) (active : Active) → IsLeastActive w active → NoneActive w.trail w.clauses → ⊥
least-is_active w (Unit id l) first none = not_none w id _ (unit-active w l) first none
least-is_active w (False id) first none = not_none w id _ (false-active w) first none

-- the clauses up to this one
pub take-with : (clauses : List (List Literal)) (k : ℕ) (clause : List Literal) → slice_get clauses k ≡ Some clause → take (k + 1) clauses ≡ take k clauses ++ clause ∷ []
take-with clauses k clause is = take_more clauses k clause (below clauses k clause is) ∙ ap (λ (c : List Literal). take k clauses ++ c ∷ []) (get_or_from_slice_get clauses k clause clause is) where
  below : (cs : List (List Literal)) (n : ℕ) (c : List Literal) → slice_get cs n ≡ Some c → n < length cs
  below [] n c e = absurd (none_some c e) where
    none_some : (d : List Literal) → None ≡ Some d → ⊥
    none_some d h = cc
  below (d ∷ ds) zero c e = omega arith
  below (d ∷ ds) (suc n) c e = omega (arith, below ds n c e)

-- a clause behind those of which none is active is the first that is
pub first-clause : (w : Watch) (before : ℕ) (clause : List Literal) (IsSo : List Literal → Type 0) → slice_get w.clauses (before + 1 - 1) ≡ Some clause → IsSo clause
    → NoneActive w.trail (take before w.clauses) → IsFirst w (before + 1) IsSo
first-clause w before clause IsSo stands is_so none =
    let same : before ≡ before + 1 - 1 = omega arith in
    record {
      clause = clause;
      above = omega arith;
      stands = stands;
      is_so = is_so;
      none_before = subst (λ (n : ℕ). NoneActive w.trail (take n w.clauses)) same none;
    }
