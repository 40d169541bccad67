-- What values make of the clauses of a text, and of those in which a formula keeps them.
use Rattle.std.proofs.Common.{◌≡◌, ℕ, zero, suc, ◌+◌, ◌-◌, ◌<◌, ◌≤◌, Bool, true, false, cond, List, [], ◌∷◌, ◌++◌, length, take, get_or, refl, sym, ◌∙◌, ap, subst, inl, inr, arith}
use Rattle.std.specs.Prelude.{All, Any, Contains, replicate, not, ◌==◌, ◌&&◌, if◌then◌else◌}
use Rattle.std.specs.Bool.{MatchBool}
use Rattle.std.proofs.lemmas.Bool.{eqb-true}
use Rattle.std.proofs.lemmas.List.{get_or-take, get_or_append_left, get_or-append_right, get_or-replicate}
use Rattle.std.proofs.lemmas.List.Elements.{All-contains}
use Rattle.bx_cnf.specs.Literals.{Literal, negated, value_of, IsLiteralTrue}
use Rattle.bx_cnf.specs.Formulas.{Formula, IsClauseTrue, AllTrue}
use Rattle.bx_cnf.proofs.Propagation.{tautology_always}
use Rattle.bx_dimacs.specs.FormulaTexts.{FormulaText, are_opposite, is_tautology, vars_with, vars_for}
use Rattle.bx_dimacs.specs.Keeping.{AreDeclared, AreInOrder, own_clause, IsKept, AreKept, Keeps}
use Rattle.bx_dimacs.proofs.Lists.{all_head, all_tail, all_cons}
use Rattle.bx_dimacs.proofs.Ordering.{HasOpposites, opposites, one_variable}
use Rattle.bx_dimacs.proofs.Showing.{vars_more}

-- the opposite of a literal is its negation
other_sign : (p q : Bool) (t : Bool) → (t && (if p then not q else q)) ≡ true → q ≡ not p
other_sign true true true h = absurd (let clash : false ≡ true = h in (cc))
other_sign true false true h = refl
other_sign false true true h = refl
other_sign false false true h = absurd (let clash : false ≡ true = h in (cc))
other_sign p q false h = let clash : false ≡ true = h in absurd (cc)

is_negation : (l m : Literal) → are_opposite l m ≡ true → m ≡ negated l
is_negation l m h =
    ap (λ v. let x : Literal = record { var = v; positive = m.positive } in x) (sym (one_variable l m h))
    ∙ ap (λ p. let x : Literal = record { var = l.var; positive = p } in x) (other_sign l.positive m.positive (l.var == m.var) h)

tautology_true : (bits : List Bool) (clause : List Literal) → is_tautology clause ≡ true → IsClauseTrue bits clause
tautology_true bits clause is =
    let h = opposites clause is in
    tautology_always bits clause h.one h.has_one (subst (Contains clause) (is_negation h.one h.other h.are) h.has_other)

-- a clause is true by one of its literals
by_literal : (bits : List Bool) (clause : List Literal) (l : Literal) → Contains clause l → IsLiteralTrue bits l → IsClauseTrue bits clause
by_literal bits clause l has is = (has.0, l, has.1, has.2, is)

-- a literal's value is among those of the declared variables
cut_true : (bits : List Bool) (vars : ℕ) (l : Literal) → (0 < l.var) × (l.var ≤ vars) → IsLiteralTrue bits l → IsLiteralTrue (take vars bits) l
cut_true bits vars l declared is = get_or-take vars bits (l.var - 1) false (omega (arith, declared.0, declared.1)) ∙ is

clause_cut : (bits : List Bool) (vars n : ℕ) (clause kept : List Literal) → AreDeclared vars clause → IsKept n clause kept → IsClauseTrue bits kept → IsClauseTrue (take vars bits) clause
clause_cut bits vars n clause kept declared is holds = at (is_tautology clause) refl is where
  at : (t : Bool) → is_tautology clause ≡ t → MatchBool t (kept ≡ own_clause n) (AreInOrder clause kept) → IsClauseTrue (take vars bits) clause
  at true e _ = tautology_true (take vars bits) clause e
  at false e in_order =
      let (k, l, within, stands, l_true) = holds in
      let has : Contains clause l = (in_order.same l).1 (k, within, stands) in
      by_literal (take vars bits) clause l has (cut_true bits vars l (All-contains (λ (m : Literal). (0 < m.var) × (m.var ≤ vars)) clause l declared has) l_true)

to_text : (bits : List Bool) (vars n : ℕ) (clauses kept : List (List Literal)) → All (AreDeclared vars) clauses → AreKept n clauses kept → AllTrue bits kept → AllTrue (take vars bits) clauses
to_text bits vars n [] [] declared are all = λ k d lt. absurd (omega (arith, lt))
to_text bits vars n [] (x ∷ xs) declared are all = absurd are
to_text bits vars n (c ∷ cs) [] declared are all = absurd are
to_text bits vars n (c ∷ cs) (x ∷ xs) declared are all =
    all_cons (IsClauseTrue (take vars bits)) c cs
    (clause_cut bits vars n c x (all_head (AreDeclared vars) c cs declared) are.0 (all_head (IsClauseTrue bits) x xs all))
    (to_text bits vars (vars_with n c) cs xs (all_tail (AreDeclared vars) c cs declared) are.1 (all_tail (IsClauseTrue bits) x xs all))

pub text_true : (text : FormulaText) (formula : Formula) (bits : List Bool) → Keeps text formula → AllTrue bits formula.clauses → AllTrue (take text.vars bits) text.clauses
text_true text formula bits keeps all = to_text bits text.vars text.vars text.clauses formula.clauses keeps.declared keeps.clauses all

-- values of the declared variables, and true for the others
abbrev filled : List Bool → ℕ → List Bool
filled values more = values ++ replicate more true

own_true : (values : List Bool) (more n : ℕ) → length values ≤ n → n < length values + more → IsClauseTrue (filled values more) (own_clause n)
own_true values more n past within =
    let place : ℕ = n + 1 - 1 in
    let value : get_or (filled values more) place false ≡ true =
    get_or-append_right values (replicate more true) (length values) place false refl (omega (arith, past)) ∙ get_or-replicate more (place - length values) true false (omega (arith, past, within))
    in
    (0, record { var = n + 1; positive = true }, omega arith, refl, value)

kept_true : (values : List Bool) (more n : ℕ) (clause kept : List Literal) → AreDeclared (length values) clause → IsKept n clause kept → length values ≤ n → vars_with n clause ≤ length values + more → IsClauseTrue values clause → IsClauseTrue (filled values more) kept
kept_true values more n clause kept declared is past within holds = at (is_tautology clause) refl is where
  at : (t : Bool) → is_tautology clause ≡ t → MatchBool t (kept ≡ own_clause n) (AreInOrder clause kept) → IsClauseTrue (filled values more) kept
  at true e own =
      let two : n + 2 ≤ length values + more = subst (λ t. cond t (n + 2) n ≤ length values + more) e within in
      subst (IsClauseTrue (filled values more)) (sym own) (own_true values more n past (omega (arith, two)))
  at false e in_order =
      let (k, l, lt, stands, l_true) = holds in
      let has : Contains clause l = (k, lt, stands) in
      let is_declared = All-contains (λ (m : Literal). (0 < m.var) × (m.var ≤ length values)) clause l declared has in
      let same : get_or (filled values more) (l.var - 1) false ≡ get_or values (l.var - 1) false = get_or_append_left values (replicate more true) false (l.var - 1) (omega (arith, is_declared.0, is_declared.1)) in
      by_literal (filled values more) kept l ((in_order.same l).0 has) (same ∙ l_true)

with_more : (n : ℕ) (clause : List Literal) → n ≤ vars_with n clause
with_more n clause = at (is_tautology clause) where
  at : (t : Bool) → n ≤ cond t (n + 2) n
  at true = omega arith
  at false = omega arith

to_formula : (values : List Bool) (more n : ℕ) (clauses kept : List (List Literal)) → All (AreDeclared (length values)) clauses → AreKept n clauses kept → length values ≤ n → vars_for n clauses ≤ length values + more → AllTrue values clauses → AllTrue (filled values more) kept
to_formula values more n [] [] declared are past within all = λ k d lt. absurd (omega (arith, lt))
to_formula values more n [] (x ∷ xs) declared are past within all = absurd are
to_formula values more n (c ∷ cs) [] declared are past within all = absurd are
to_formula values more n (c ∷ cs) (x ∷ xs) declared are past within all =
    let up = with_more n c in
    let rest = vars_more (vars_with n c) cs in
    all_cons (IsClauseTrue (filled values more)) x xs
    (kept_true values more n c x (all_head (AreDeclared (length values)) c cs declared) are.0 past (omega (arith, rest, within)) (all_head (IsClauseTrue values) c cs all))
    (to_formula values more (vars_with n c) cs xs (all_tail (AreDeclared (length values)) c cs declared) are.1 (omega (arith, up, past)) within (all_tail (IsClauseTrue values) c cs all))

pub formula_true : (text : FormulaText) (formula : Formula) (values : List Bool) → Keeps text formula → length values ≡ text.vars → AllTrue values text.clauses → AllTrue (values ++ replicate (formula.vars - text.vars) true) formula.clauses
formula_true text formula values keeps is all =
    let more = vars_more text.vars text.clauses in
    let vars = keeps.vars in
    to_formula values (formula.vars - text.vars) text.vars text.clauses formula.clauses (subst (λ n. All (AreDeclared n) text.clauses) (sym is) keeps.declared) keeps.clauses (omega (arith, is)) (omega (arith, is, more, vars)) all
