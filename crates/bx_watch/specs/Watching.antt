-- A solver's clauses under its trail: what is assigned, and the first clause that is active.
use Rattle.std.specs.Prelude.{◌≡◌, ◌≢◌, ℕ, ◌-◌, ◌<◌, ◌≤◌, Bool, List, [], ◌∷◌, ◌++◌, Some, All, AllPairs, take, slice_get}
use Rattle.bx_cnf.specs.Literals.{Literal}
use Rattle.bx_cnf.specs.Formulas.{IsFormula}
use Rattle.bx_cnf.specs.Assignments.{IsClauseFalse, IsUnit, IsActive}
use Rattle.bx_watch.specs.declared.active.Active.{Active}
use Rattle.bx_watch.specs.declared.active.Active.TheVariants.{Unit, False}

-- how many variables there are, the clauses, which are numbered from 1, and the literals that are
-- assigned and not freed, in the order in which they were assigned
pub record Watch : Type 0 where
  pub vars : ℕ
  pub clauses : List (List Literal)
  pub trail : List Literal

-- over one of so many variables
abbrev pub IsOver : ℕ → Literal → Type 0
IsOver vars l = (0 < l.var) × (l.var ≤ vars)

-- no two are over one variable
abbrev pub AreApart : List Literal → Type 0
AreApart trail = AllPairs (λ a b. a.var ≢ b.var) trail

pub record IsWatch (w : Watch) : Type 0 where
  pub formula : IsFormula (record { vars = w.vars; clauses = w.clauses })
  pub over : All (IsOver w.vars) w.trail
  pub apart : AreApart w.trail

-- the variable is that of the last literal of the trail
pub record IsLast (trail : List Literal) (var : ℕ) : Type 0 where
  pub before : List Literal
  pub positive : Bool
  pub split : trail ≡ before ++ record { var = var; positive = positive } ∷ []

-- the last literal of the trail, which is over this variable, was taken off, and nothing else changed
pub record Frees (old new : Watch) (var : ℕ) : Type 0 where
  pub positive : Bool
  pub split : old.trail ≡ new.trail ++ record { var = var; positive = positive } ∷ []
  pub kept : new ≡ record old { trail = new.trail }

-- none of these clauses is active
abbrev pub NoneActive : List Literal → List (List Literal) → Type 0
NoneActive trail clauses = All (λ clause. IsActive trail clause → ⊥) clauses

-- the clause of this number is so, and none of a smaller number is active
pub record IsFirst (w : Watch) (id : ℕ) (IsSo : List Literal → Type 0) : Type 0 where
  pub clause : List Literal
  pub above : 0 < id
  pub stands : slice_get w.clauses (id - 1) ≡ Some clause
  pub is_so : IsSo clause
  pub none_before : NoneActive w.trail (take (id - 1) w.clauses)

-- the least-numbered active clause: one that is unit, with the literal that it leaves, or one that is false
abbrev pub IsLeastActive : Watch → Active → Type 0
IsLeastActive w (Unit id l) = IsFirst w id (λ clause. IsUnit w.trail clause l)
IsLeastActive w (False id) = IsFirst w id (IsClauseFalse w.trail)
