-- Clauses, and formulas in conjunctive normal form.
use Rattle.std.specs.Prelude.{ℕ, ◌^◌, ◌<◌, ◌≤◌, Bool, List, [], ◌∷◌, ◌++◌, length, All, Any, ⊤}
use Rattle.bx_cnf.specs.Literals.{Literal, IsLiteralTrue}

-- the number of variables, and the clauses, each as the list of its literals
pub record Formula : Type 0 where
  pub vars : ℕ
  pub clauses : List (List Literal)

-- the formula with a clause more, behind the others
abbrev pub with_clause : Formula → List Literal → Formula
with_clause f clause = record f { clauses = f.clauses ++ clause ∷ [] }

-- the variables of literals go up strictly, and all are above this one
abbrev pub AscendAbove : ℕ → List Literal → Type 0
AscendAbove var [] = ⊤
AscendAbove var (l ∷ ls) = (var < l.var) × AscendAbove l.var ls

-- literals over variables 1 to this one, strictly ascending by variable
pub record IsClause (vars : ℕ) (literals : List Literal) : Type 0 where
  pub ascending : AscendAbove 0 literals
  pub within : All (λ l. l.var ≤ vars) literals

-- what a store of clauses holds at all times
pub record IsFormula (f : Formula) : Type 0 where
  pub vars : f.vars < 2 ^ 31
  pub count : length f.clauses < 2 ^ 32
  pub each : All (IsClause f.vars) f.clauses

-- a clause is true under bits: one of its literals is
abbrev pub IsClauseTrue : List Bool → List Literal → Type 0
IsClauseTrue bits literals = Any (IsLiteralTrue bits) literals

-- bits make all clauses true
abbrev pub AllTrue : List Bool → List (List Literal) → Type 0
AllTrue bits clauses = All (IsClauseTrue bits) clauses
