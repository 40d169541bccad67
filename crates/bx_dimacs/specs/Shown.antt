-- What is held of a text while it is read, and what is found of it.
use Rattle.std.specs.Prelude.{◌≡◌, Bool, true, false, Option, Some, None, ⊤}
use Rattle.bx_dimacs.specs.declared.formula.Reading.{Reading}
use Rattle.bx_dimacs.specs.FormulaTexts.{FormulaText}
use Rattle.bx_dimacs.specs.Keeping.{AreDeclared, Keeps}

-- what was read holds what the text says so far
pub record Shows (reading : Reading) (text : FormulaText) : Type 0 where
  pub vars : text.vars ≡ reading.header.vars
  pub count : text.count ≡ reading.header.clauses
  pub begun : text.begun ≡ reading.literals.items
  pub within : AreDeclared text.vars text.begun
  pub keeps : Keeps text reading.draft

-- it could be read, where reading goes on, and what was read then holds what the text says
abbrev pub GoesOn : Reading → Bool → Option FormulaText → Type 0
GoesOn reading true (Some text) = Shows reading text
GoesOn reading true None = ⊥
GoesOn reading false (Some text) = ⊥
GoesOn reading false None = ⊤
