use Rattle.std.proofs.Common.{◌≡◌, Ok, Result, ℕ, sym, ◌∙◌, subst}
use Rattle.bx_check.proofs.Sound.{accepted_sound}
use Rattle.bx_dimacs.proofs.Meaning.{formula_true}
use Rattle.bx_dimacs.specs.FormulaTexts.{FormulaText}
use Rattle.bx_dimacs.specs.Keeping.{Keeps}
use Rattle.bx_sat.proofs.laws.a_refuted_text_has_no_solution.Goals as goal

one_said : (a b : FormulaText) → (let x : Result FormulaText ℕ = Ok a in x) ≡ Ok b → a ≡ b
one_said a b e = cc

pub returns : goal.returns
returns c = λ formula proof values refuted solved.
    let same = one_said refuted.said solved.said (sym refuted.says ∙ solved.says) in
    accepted_sound refuted.clauses refuted.log _ refuted.accepted
    (formula_true solved.said refuted.clauses values (subst (λ (text : FormulaText). Keeps text refuted.clauses) same refuted.keeps) solved.each solved.all)
