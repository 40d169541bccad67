-- How the clauses of a text are kept in a formula.
use Rattle.std.specs.Prelude.{◌≡◌, ℕ, ◌+◌, ◌<◌, ◌≤◌, true, List, [], ◌∷◌, All, Contains, ◌↔◌, Ok, ⊤}
use Rattle.std.specs.Bool.{MatchBool}
use Rattle.bx_cnf.specs.Literals.{Literal}
use Rattle.bx_cnf.specs.Formulas.{Formula, AscendAbove}
use Rattle.bx_dimacs.specs.declared.formula.DimacsFormula.{DimacsFormula}
use Rattle.bx_dimacs.specs.FormulaTexts.{FormulaText, is_tautology, vars_with, vars_for, formula_of}

-- the same literals, in the order of their variables, and each once
pub record AreInOrder (literals ordered : List Literal) : Type 0 where
  pub ascending : AscendAbove 0 ordered
  pub same : (l : Literal) → Contains literals l ↔ Contains ordered l

-- a clause over the two variables behind so many, which stands for a tautology
abbrev pub own_clause : ℕ → List Literal
own_clause vars = record { var = vars + 1; positive = true } ∷ record { var = vars + 2; positive = true } ∷ []

-- a clause of a text, as it is kept in a formula that has so many variables so far
abbrev pub IsKept : ℕ → List Literal → List Literal → Type 0
IsKept vars clause kept = MatchBool (is_tautology clause) (kept ≡ own_clause vars) (AreInOrder clause kept)

-- clauses of a text, as they are kept in a formula that had so many variables before the first
abbrev pub AreKept : ℕ → List (List Literal) → List (List Literal) → Type 0
AreKept vars [] [] = ⊤
AreKept vars [] (kept ∷ more) = ⊥
AreKept vars (clause ∷ clauses) [] = ⊥
AreKept vars (clause ∷ clauses) (kept ∷ more) = IsKept vars clause kept × AreKept (vars_with vars clause) clauses more

-- the variables of literals are among those declared
abbrev pub AreDeclared : ℕ → List Literal → Type 0
AreDeclared vars literals = All (λ l. (0 < l.var) × (l.var ≤ vars)) literals

-- a formula keeps what a text says, whose clauses are over the declared variables
pub record Keeps (text : FormulaText) (formula : Formula) : Type 0 where
  pub declared : All (AreDeclared text.vars) text.clauses
  pub vars : formula.vars ≡ vars_for text.vars text.clauses
  pub clauses : AreKept text.vars text.clauses formula.clauses

-- a formula is what bytes say, with as many variables of theirs as they declare
pub record IsFormulaOf (bytes : List ℕ) (read : DimacsFormula) : Type 0 where
  pub said : FormulaText
  pub says : formula_of bytes ≡ Ok said
  pub vars : read.vars ≡ said.vars
  pub keeps : Keeps said read.clauses
