-- Formulas: what an expression says of names, where each operator has one argument or two.
use Rattle.std.specs.Prelude.{ℕ, Bool, not, List, [], ◌∷◌, ◌++◌}
use Rattle.bx_logic.specs.declared.op.Op.{Op}
use Rattle.bx_logic.specs.declared.op.Op.TheVariants.{And as AndGate, Or as OrGate, Xor as XorGate, Xnor as XnorGate}
use Rattle.bx_logic.specs.Op.{op_value}
use Rattle.bx_syntax.specs.declared.tree.Operator.{Operator}
use Rattle.bx_syntax.specs.declared.tree.Operator.TheVariants.{And, Or, Xor, Xnor}
use Rattle.bx_syntax.specs.Trees.{Tree, net, bit, inverse, group, joined, Tail, done, link}

-- bytes; a name is its bytes
abbrev pub Text : Type 0
Text = List ℕ

pub data Formula : Type 0 where
  named : Text → Formula
  constant : Bool → Formula
  negation : Formula → Formula
  pair : Operator → Formula → Formula → Formula

abbrev mutual
  -- what an expression says: operators of one level group to the left, and parentheses say no more
  pub formula : Tree → Formula
  formula (net n) = named n
  formula (bit b) = constant b
  formula (inverse t) = negation (formula t)
  formula (group t) = formula t
  formula (joined t o u ts) = grouped (pair o (formula t) (formula u)) ts

  pub grouped : Formula → Tail → Formula
  grouped f done = f
  grouped f (link o t ts) = grouped (pair o f (formula t)) ts

-- the gate of two arguments that an operator is
abbrev pub operation : Operator → Op
operation And = AndGate
operation Xor = XorGate
operation Xnor = XnorGate
operation Or = OrGate

-- the value of a formula, where the names have these
abbrev pub formula_value : (Text → Bool) → Formula → Bool
formula_value v (named n) = v n
formula_value v (constant b) = b
formula_value v (negation f) = not (formula_value v f)
formula_value v (pair o f g) = op_value (operation o) (formula_value v f ∷ formula_value v g ∷ [])

-- the names that it reads, from left to right
abbrev pub names_of : Formula → List Text
names_of (named n) = n ∷ []
names_of (constant b) = []
names_of (negation f) = names_of f
names_of (pair o f g) = names_of f ++ names_of g
