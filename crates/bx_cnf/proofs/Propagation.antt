-- Literals and clauses under bits, and what propagation keeps.
use Rattle.std.proofs.Common.{◌≡◌, ℕ, zero, suc, ◌<◌, Bool, true, false, List, [], ◌∷◌, length, get_or, Some, refl, sym, ◌∙◌, ap, subst, inl, inr, arith}
use Rattle.std.proofs.lemmas.List.Elements.{All-contains}
use Rattle.std.proofs.lemmas.Bool.{cases_lt}
use Rattle.std.proofs.lemmas.Option.{slice_get-get_or}
use Rattle.std.specs.Prelude.{◌≢◌, slice_get, ◌⊎◌, ◌↔◌, not, All, AllPairs, Contains}
use Rattle.bx_cnf.specs.Literals.{Literal, IsLiteral, literal_of, number_of, negated, value_of, IsLiteralTrue, IsLiteralFalse}
use Rattle.bx_cnf.specs.Formulas.{AscendAbove, IsClause, IsClauseTrue}
use Rattle.bx_cnf.specs.Assignments.{IsFalse, IsClauseFalse, LeavesOne}

pub literal_of-number_of : (l : Literal) → IsLiteral l → literal_of (number_of l) ≡ l
literal_of-number_of l is = by_sign l.var l.positive is.above where
  by_sign : (v : ℕ) (b : Bool) → 0 < v → literal_of (number_of (record { var = v; positive = b })) ≡ record { var = v; positive = b }
  by_sign zero b h = absurd (omega arith)
  by_sign (suc n) true h = refl
  by_sign (suc n) false h = refl

pub not-not : (b : Bool) → not (not b) ≡ b
not-not true = refl
not-not false = refl

same_or_not : (a b : Bool) → (a ≡ b) ⊎ (a ≡ not b)
same_or_not true true = inl refl
same_or_not true false = inr refl
same_or_not false true = inr refl
same_or_not false false = inl refl

not_both : (a b : Bool) → a ≡ b → a ≡ not b → ⊥
not_both a true e f = cc
not_both a false e f = cc

pub true_or_false : (bits : List Bool) (l : Literal) → IsLiteralTrue bits l ⊎ IsLiteralFalse bits l
true_or_false bits l = same_or_not (value_of bits l.var) l.positive

pub never_both : (bits : List Bool) (l : Literal) → IsLiteralTrue bits l → IsLiteralFalse bits l → ⊥
never_both bits l = not_both (value_of bits l.var) l.positive

pub negation_true : (bits : List Bool) (l : Literal) → IsLiteralTrue bits (negated l) ↔ IsLiteralFalse bits l
negation_true bits l = (λ h. h, λ h. h)

pub negated-negated : (l : Literal) → negated (negated l) ≡ l
negated-negated l = ap (λ b. record { var = l.var; positive = b }) (not-not l.positive)

pub empty_never : (bits : List Bool) → IsClauseTrue bits [] → ⊥
empty_never bits h = omega (arith, h.2)

-- a literal of a clause that is true
contained_true : (bits : List Bool) (clause : List Literal) (l : Literal) → Contains clause l → IsLiteralTrue bits l → IsClauseTrue bits clause
contained_true bits clause l has h = (has.0, l, has.1, has.2, h)

pub tautology_always : (bits : List Bool) (clause : List Literal) (l : Literal) → Contains clause l → Contains clause (negated l) → IsClauseTrue bits clause
tautology_always bits clause l has has_not =
    elim (true_or_false bits l) [ inl h ↦ contained_true bits clause l has h | inr h ↦ contained_true bits clause (negated l) has_not h ]

-- each variable is above the one that all are above
above : (var : ℕ) (ls : List Literal) (k : ℕ) (d : Literal) → AscendAbove var ls → k < length ls → var < (get_or ls k d).var
above var [] k d h within = absurd (omega arith)
above var (l ∷ ls) zero d h within = h.0
above var (l ∷ ls) (suc k) d h within = let rest = above l.var ls k d h.1 (omega arith) in omega (arith, h.0, rest)

pairs : (var : ℕ) (ls : List Literal) → AscendAbove var ls → AllPairs (λ a b. a.var < b.var) ls
pairs var [] h i j d before within = absurd (omega arith)
pairs var (l ∷ ls) h i zero d before within = absurd (omega arith)
pairs var (l ∷ ls) h zero (suc j) d before within = above l.var ls j d h.1 (omega arith)
pairs var (l ∷ ls) h (suc i) (suc j) d before within = pairs l.var ls h.1 i j d (omega arith) (omega arith)

pub clause_pairs : (vars : ℕ) (clause : List Literal) → IsClause vars clause → AllPairs (λ a b. a.var < b.var) clause
clause_pairs vars clause is = pairs 0 clause is.ascending

-- a literal that is false under literals that bits make true is false under the bits
pub false_under : (bits : List Bool) (trues : List Literal) (l : Literal) → All (IsLiteralTrue bits) trues → IsFalse trues l → IsLiteralFalse bits l
false_under bits trues l all is = All-contains (IsLiteralTrue bits) trues (negated l) all is

-- the true literal of a clause is one of its literals
pub true_literal : (bits : List Bool) (clause : List Literal) → IsClauseTrue bits clause → (l : Literal) × Contains clause l × IsLiteralTrue bits l
true_literal bits clause h = (h.1, (h.0, h.2, h.3), h.4)

pub conflict_sound : (bits : List Bool) (trues clause : List Literal) → All (IsLiteralTrue bits) trues → IsClauseFalse trues clause → IsClauseTrue bits clause → ⊥
conflict_sound bits trues clause all is_false is_true =
    let (l, has, h) = true_literal bits clause is_true in
    never_both bits l h (false_under bits trues l all (All-contains (IsFalse trues) clause l is_false has))

-- a place is this one or another
same_or_other : (k place : ℕ) → (k ≡ place) ⊎ (k ≢ place)
same_or_other k place = elim (cases_lt k place) [ inl lt ↦ inr (λ e. omega arith) | inr le ↦ elim (cases_lt place k) [ inl lt ↦ inr (λ e. omega arith) | inr ge ↦ inl (omega arith) ] ]

pub propagated_sound : (bits : List Bool) (trues clause : List Literal) (l : Literal) → All (IsLiteralTrue bits) trues → LeavesOne trues clause l → IsClauseTrue bits clause → IsLiteralTrue bits l
propagated_sound bits trues clause l all leaves is_true =
    let (k, m, within, is, h) = is_true in
    let stands : slice_get clause k ≡ Some m = slice_get-get_or clause k m within ∙ ap Some is in
    elim (same_or_other k leaves.place) [
      | inl same ↦ let e : m ≡ l = by_place clause k leaves.place m l same stands leaves.stands in subst (IsLiteralTrue bits) e h
      | inr other ↦ absurd (never_both bits m h (false_under bits trues m all (leaves.others k m stands other)))
    ] where
      by_place : (c : List Literal) (i j : ℕ) (a b : Literal) → i ≡ j → slice_get c i ≡ Some a → slice_get c j ≡ Some b → a ≡ b
      by_place c i j a b same at_i at_j = let e : Some a ≡ Some b = sym at_i ∙ ap (slice_get c) same ∙ at_j in cc
