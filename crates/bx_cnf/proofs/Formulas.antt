-- Formulas under bits, clause by clause.
use Rattle.std.proofs.Common.{◌≡◌, ℕ, suc, ◌+◌, ◌<◌, ◌≤◌, Bool, List, ◌∷◌, length, get_or, take, drop, Some, sym, ◌∙◌, ap, subst, arith, drop-cons}
use Rattle.std.proofs.Math.ListN.{drop_of_length-le}
use Rattle.std.proofs.lemmas.List.{take_all}
use Rattle.std.proofs.lemmas.List.Elements.{All-more}
use Rattle.std.proofs.lemmas.Option.{slice_get_within, get_or_from_slice_get}
use Rattle.std.specs.Prelude.{slice_get, All}
use Rattle.bx_cnf.specs.Literals.{Literal}
use Rattle.bx_cnf.specs.Formulas.{AscendAbove, IsClause, IsClauseTrue, AllTrue}

pub true_at : (bits : List Bool) (clauses : List (List Literal)) (k : ℕ) (c : List Literal) → slice_get clauses k ≡ Some c → AllTrue bits clauses → IsClauseTrue bits c
true_at bits clauses k c is all =
    subst (IsClauseTrue bits) (get_or_from_slice_get clauses k c c is) (all k c (slice_get_within clauses k c is))

pub true_more : (bits : List Bool) (clauses : List (List Literal)) (k : ℕ) (c : List Literal) → slice_get clauses k ≡ Some c → AllTrue bits (take k clauses) → IsClauseTrue bits c → AllTrue bits (take (k + 1) clauses)
true_more bits clauses k c is all h =
    All-more (IsClauseTrue bits) clauses k c (slice_get_within clauses k c is) all (subst (IsClauseTrue bits) (sym (get_or_from_slice_get clauses k c c is)) h)

pub true_all : (bits : List Bool) (clauses : List (List Literal)) (k : ℕ) → length clauses ≤ k → AllTrue bits (take k clauses) → AllTrue bits clauses
true_all bits clauses k le all = subst (AllTrue bits) (take_all k clauses le) all

-- of the literals from a place on, the first and the rest
first_rest : (ls : List Literal) (i : ℕ) (x : Literal) → i < length ls → x ≡ get_or ls i x → drop i ls ≡ x ∷ drop (i + 1) ls
first_rest ls i x within is =
    let next : suc i ≡ i + 1 = omega arith in
    drop-cons ls i x within ∙ ap (λ y. y ∷ drop (suc i) ls) (sym is) ∙ ap (λ n. x ∷ drop n ls) next

-- one literal more of those that ascend
pub ascend_more : (last var : ℕ) (ls : List Literal) (i : ℕ) (x : Literal) → i < length ls → x ≡ get_or ls i x → var ≡ x.var → last < var → (AscendAbove last (drop i ls) → AscendAbove var (drop (i + 1) ls)) × (AscendAbove var (drop (i + 1) ls) → AscendAbove last (drop i ls))
ascend_more last var ls i x within is same up =
    let e : drop i ls ≡ x ∷ drop (i + 1) ls = first_rest ls i x within is in
    let to : AscendAbove last (drop i ls) → AscendAbove var (drop (i + 1) ls) = λ h. subst (λ v. AscendAbove v (drop (i + 1) ls)) (sym same) (subst (AscendAbove last) e h).1 in
    let from : AscendAbove var (drop (i + 1) ls) → AscendAbove last (drop i ls) = λ h. subst (AscendAbove last) (sym e) (omega arith, subst (λ v. AscendAbove v (drop (i + 1) ls)) same h) in
    (to, from)

pub within_more : (vars var : ℕ) (ls : List Literal) (i : ℕ) (x : Literal) → i < length ls → x ≡ get_or ls i x → var ≡ x.var → var ≤ vars → All (λ l. l.var ≤ vars) (take i ls) → All (λ l. l.var ≤ vars) (take (i + 1) ls)
within_more vars var ls i x within is same le all =
    let here : x.var ≤ vars = omega arith in
    All-more (λ l. l.var ≤ vars) ls i x within all (subst (λ l. l.var ≤ vars) is here)

pub clause_all : (vars last i : ℕ) (ls : List Literal) → length ls ≤ i → (AscendAbove last (drop i ls) → AscendAbove 0 ls) → All (λ l. l.var ≤ vars) (take i ls) → IsClause vars ls
clause_all vars last i ls le whole within = record {
  ascending = whole (subst (AscendAbove last) (sym (drop_of_length-le ls {i = i} le)) tt);
  within = subst (All (λ l. l.var ≤ vars)) (take_all i ls le) within;
}
