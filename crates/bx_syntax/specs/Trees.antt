-- Trees of expressions, without where they lie in memory, and what the code's trees are among them.
use Rattle.std.specs.Prelude.{ℕ, Bool, List, [], ◌∷◌}
use Rattle.bx_syntax.specs.declared.tree.Operator.{Operator}
use Rattle.bx_syntax.specs.declared.tree.Expr.{Expr, Net, Bit, Not', Group', Joined', Row_of-Operand, end_of-Operand, more_of-Operand}
use Rattle.bx_syntax.specs.declared.tree.Operand.{Operand}

mutual
  -- an expression; operands of one level are the first, the operator behind it, the second, and more
  pub data Tree : Type 0 where
    net : List ℕ → Tree
    bit : Bool → Tree
    inverse : Tree → Tree
    group : Tree → Tree
    joined : Tree → Operator → Tree → Tail → Tree

  -- further operands of a level, each with the operator before it
  pub data Tail : Type 0 where
    done : Tail
    link : Operator → Tree → Tail → Tail

-- an operand and further ones of its level; a level of one operand is this operand
abbrev pub chain_of : Tree → Tail → Tree
chain_of t done = t
chain_of t (link o u ts) = joined t o u ts

abbrev mutual
  pub tree : Expr → Tree
  tree (Net n) = net n
  tree (Bit b) = bit b
  tree (Not' _ e) = inverse (tree e)
  tree (Group' _ e) = group (tree e)
  tree (Joined' _ e o _ f _ operands) = joined (tree e) o (tree f) (row_tail operands)

  pub row_tail : {n : _} → Row_of-Operand n → Tail
  row_tail end_of-Operand = done
  row_tail (more_of-Operand o e operands) = link o (tree e) (row_tail operands)

-- the operands of a list
abbrev pub tail : List Operand → Tail
tail [] = done
tail (o ∷ os) = link o.operator (tree o.expr) (tail os)
