-- How many literals of a clause aren't false.
use Rattle.std.specs.Prelude.{List}
use Rattle.bx_cnf.specs.Literals.{Literal}
use Rattle.bx_cnf.specs.Assignments.{IsClauseFalse, LeavesOne}
use Rattle.bx_check.specs.declared.left.Left.{Left}
use Rattle.bx_check.specs.declared.left.Left.TheVariants.{Nothing, One, More}

abbrev pub IsLeft : List Literal → List Literal → Left → Type 0
IsLeft trues clause Nothing = IsClauseFalse trues clause
IsLeft trues clause (One l) = LeavesOne trues clause l
IsLeft trues clause More = (IsClauseFalse trues clause → ⊥) × ((l : Literal) → LeavesOne trues clause l → ⊥)
