-- The grammar of expressions. Its levels are numbered: 0 is prim, 1 and, 2 xor, 3 expr. An operand of
-- a level is a list of operands of the level below, joined by the operators that stand between these.
use Rattle.std.specs.Prelude.{◌≡◌, ℕ, ◌+◌, ◌<◌, max, List, [], ◌∷◌, ◌++◌}
use Rattle.bx_syntax.specs.declared.terminal.Terminal.{Terminal}
use Rattle.bx_syntax.specs.declared.terminal.Terminal.TheVariants.{Fixed, Name, Bit}
use Rattle.bx_syntax.specs.declared.terminal.Mark.TheVariants.{Tilde, Open, Close, Ampersand, Caret, TildeCaret, Bar}
use Rattle.bx_syntax.specs.declared.tree.Operator.{Operator}
use Rattle.bx_syntax.specs.declared.tree.Operator.TheVariants.{And, Xor, Xnor, Or}
use Rattle.bx_syntax.specs.Trees.{Tree, net, bit, inverse, group, joined, Tail, done, link}

-- the level of the operands between which an operator stands
abbrev pub rank : Operator → ℕ
rank And = 0
rank Xor = 1
rank Xnor = 1
rank Or = 2

abbrev mutual
  -- an operand of a level
  pub IsAt : ℕ → Tree → Type 0
  IsAt level (net n) = Unit {0}
  IsAt level (bit b) = Unit {0}
  IsAt level (inverse t) = IsAt 0 t
  IsAt level (group t) = IsAt 3 t
  IsAt level (joined t o u ts) = (rank o < level) × IsAt (rank o) t × IsAt (rank o) u × AreAt (rank o) ts

  -- operands of a level, and operators that stand between such
  pub AreAt : ℕ → Tail → Type 0
  AreAt level done = Unit {0}
  AreAt level (link o t ts) = (rank o ≡ level) × IsAt level t × AreAt level ts

abbrev pub sign : Operator → Terminal
sign And = Fixed Ampersand
sign Xor = Fixed Caret
sign Xnor = Fixed TildeCaret
sign Or = Fixed Bar

abbrev mutual
  -- the terminals of an expression
  pub spelling : Tree → List Terminal
  spelling (net n) = Name n ∷ []
  spelling (bit b) = Bit b ∷ []
  spelling (inverse t) = Fixed Tilde ∷ spelling t
  spelling (group t) = Fixed Open ∷ (spelling t ++ Fixed Close ∷ [])
  spelling (joined t o u ts) = spelling t ++ sign o ∷ (spelling u ++ tail_spelling ts)

  pub tail_spelling : Tail → List Terminal
  tail_spelling done = []
  tail_spelling (link o t ts) = sign o ∷ (spelling t ++ tail_spelling ts)

abbrev mutual
  -- how deep `~` and `(` nest
  pub nesting : Tree → ℕ
  nesting (net n) = 0
  nesting (bit b) = 0
  nesting (inverse t) = nesting t + 1
  nesting (group t) = nesting t + 1
  nesting (joined t o u ts) = max (nesting t) (max (nesting u) (tail_nesting ts))

  pub tail_nesting : Tail → ℕ
  tail_nesting done = 0
  tail_nesting (link o t ts) = max (nesting t) (tail_nesting ts)
