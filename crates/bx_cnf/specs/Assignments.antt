-- Clauses under literals that are taken to be true, as those of a trail are.
use Rattle.std.specs.Prelude.{◌≡◌, ◌≢◌, ℕ, List, Some, slice_get, ◌⊎◌, All, Contains}
use Rattle.bx_cnf.specs.Literals.{Literal, negated}

-- a literal is false: its negation is among those taken to be true
abbrev pub IsFalse : List Literal → Literal → Type 0
IsFalse trues l = Contains trues (negated l)

-- the variable of a literal is free: neither the literal nor its negation is among them
abbrev pub IsFree : List Literal → Literal → Type 0
IsFree trues l = (Contains trues l → ⊥) × (IsFalse trues l → ⊥)

-- a clause is false: all its literals are
abbrev pub IsClauseFalse : List Literal → List Literal → Type 0
IsClauseFalse trues clause = All (IsFalse trues) clause

-- of a clause this literal, standing at one place, isn't false, and those at all other places are
pub record LeavesOne (trues clause : List Literal) (l : Literal) : Type 0 where
  pub place : ℕ
  pub stands : slice_get clause place ≡ Some l
  pub this : IsFalse trues l → ⊥
  pub others : (k : ℕ) (m : Literal) → slice_get clause k ≡ Some m → k ≢ place → IsFalse trues m

-- a clause is unit: it leaves one literal, whose variable is free
abbrev pub IsUnit : List Literal → List Literal → Literal → Type 0
IsUnit trues clause l = LeavesOne trues clause l × IsFree trues l

-- a clause is active: it is false or unit
abbrev pub IsActive : List Literal → List Literal → Type 0
IsActive trues clause = IsClauseFalse trues clause ⊎ ((l : Literal) × IsUnit trues clause l)
