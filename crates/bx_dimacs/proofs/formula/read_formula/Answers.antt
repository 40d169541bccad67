use Rattle.std.proofs.Common.{◌≡◌, ◌≤◌, ℕ, List, Ok, sym, ◌∙◌, ap, subst, rules}
use Rattle.std.specs.Prelude.{Result, IfOk, IfErr}
use Rattle.bx_dimacs.specs.declared.formula.DimacsFormula.{DimacsFormula}
use Rattle.bx_dimacs.specs.FormulaTexts.{FormulaText, empty_text, header_behind, clauses_behind, formula_of}
use Rattle.bx_dimacs.specs.Keeping.{IsFormulaOf}
use Rattle.bx_dimacs.specs.Faults.{IsStuckAt}
use Rattle.bx_dimacs.proofs.Showing.{both_ok, keeps_as, vars_kept}
use Rattle.bx_dimacs.proofs.formula.read_formula.Goals as goal

-- reading begins in front of the text
at_front : (number : ℕ) (rest text : List ℕ) (r : Result FormulaText ℕ) → rest ≡ text → number ≡ 0 → header_behind number rest ≡ r → formula_of text ≡ r
at_front number rest text r same zero is = sym (ap (λ n. header_behind n text) zero) ∙ sym (ap (header_behind number) same) ∙ is

pub returns-in_err-read_clauses-clause-stuck : goal.returns-in_err-read_clauses-clause-stuck
returns-in_err-read_clauses-clause-stuck c =
    let whole = at_front c.new-lines.result.number c.new-lines.result.rest.now c.args.text.now _ c.new-lines.ensures.text c.new-lines.ensures.number c.in_ok-header.ensures.said in
    let stuck = c.in_err-read_clauses.ensures.stuck (empty_text c.in_ok-header.header.vars c.in_ok-header.header.clauses) c.new-reading.ensures in
    subst (λ r. IfErr c.from_residual-in_err-read_clauses.result (IsStuckAt r)) (sym whole) (search rules)

pub returns-clause-said : goal.returns-clause-said
returns-clause-said c =
    let whole = at_front c.new-lines.result.number c.new-lines.result.rest.now c.args.text.now _ c.new-lines.ensures.text c.new-lines.ensures.number c.in_ok-header.ensures.said in
    let (said, is, shows) = c.in_ok-read_clauses.ensures.said (empty_text c.in_ok-header.header.vars c.in_ok-header.header.clauses) c.new-reading.ensures in
    both_ok c.into_formula.result _ _ (IsFormulaOf c.args.text.now) c.into_formula.ensures.vars c.into_formula.ensures.clauses
    (λ read vars clauses. record { said = said; says = whole ∙ is; vars = vars ∙ sym shows.vars; keeps = keeps_as said read.clauses _ clauses shows.keeps })

pub returns-clause-declared : goal.returns-clause-declared
returns-clause-declared c =
    let (said, is, shows) = c.in_ok-read_clauses.ensures.said (empty_text c.in_ok-header.header.vars c.in_ok-header.header.clauses) c.new-reading.ensures in
    both_ok c.into_formula.result _ _ (λ (read : DimacsFormula). read.vars ≤ read.clauses.vars) c.into_formula.ensures.vars c.into_formula.ensures.clauses
    (λ read vars clauses. vars_kept said read.clauses read.vars (vars ∙ sym shows.vars) (keeps_as said read.clauses _ clauses shows.keeps))
