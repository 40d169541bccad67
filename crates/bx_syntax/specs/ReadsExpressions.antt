-- Reading an expression at the front of a list of terminals: the tree and the terminals behind it, or
-- where reading stops.
use Rattle.std.specs.Prelude.{ℕ, zero, suc, nat_eq, if◌then◌else◌, List, ◌∷◌, drop, length, Option, Some, None, Result, Ok, Err}
use Rattle.bx_syntax.specs.declared.terminal.Terminal.{Terminal}
use Rattle.bx_syntax.specs.declared.terminal.Terminal.TheVariants.{Fixed, Name, Bit}
use Rattle.bx_syntax.specs.declared.terminal.Mark.{Mark}
use Rattle.bx_syntax.specs.declared.terminal.Mark.TheVariants.{Module, EndModule, Input, Output, Wire, Assign, Open, Close, Comma, Semicolon, Equals, Tilde, Ampersand, Caret, TildeCaret, Bar}
use Rattle.bx_syntax.specs.declared.stop.Stop.{Stop}
use Rattle.bx_syntax.specs.declared.stop.Stop.TheVariants.{Bad, Deep}
use Rattle.bx_syntax.specs.declared.stop.Wanted.{Wanted}
use Rattle.bx_syntax.specs.declared.stop.Wanted.TheVariants.{Primary, Other}
use Rattle.bx_syntax.specs.declared.tree.Operator.{Operator}
use Rattle.bx_syntax.specs.declared.tree.Operator.TheVariants.{And, Xor, Xnor, Or}
use Rattle.bx_syntax.specs.Trees.{Tree, net, bit, inverse, group, Tail, done, link, chain_of}
use Rattle.bx_syntax.specs.Expressions.{rank}

-- what stands at the front of a list of terminals, and the terminals behind it, or where reading stops
abbrev pub Reader : Type 0 → Type 0
Reader A = List Terminal → Result (A × List Terminal) Stop

infixl 10 ◌>>=◌
abbrev pub ◌>>=◌ : {A B : Type 0} → Result A Stop → (A → Result B Stop) → Result B Stop
(Ok x) >>= f = f x
(Err e) >>= f = Err e

-- the terminal at the front of these, or their end, may not stand there
abbrev pub stops : {A : Type 0} → Wanted → List Terminal → Result A Stop
stops wanted ts = Err (Bad (length ts) wanted)

-- the mark before these nests too deep
abbrev pub too_deep : {A : Type 0} → Reader A
too_deep ts = Err (Deep (suc (length ts)))

abbrev pub operator_of : Mark → Option Operator
operator_of Ampersand = Some And
operator_of Caret = Some Xor
operator_of TildeCaret = Some Xnor
operator_of Bar = Some Or
operator_of _ = None

abbrev pub of_rank : ℕ → Option Operator → Option Operator
of_rank k None = None
of_rank k (Some o) = if nat_eq (rank o) k then Some o else None

-- the operator at the front, if it stands between operands of this level
abbrev pub operator_at : ℕ → List Terminal → Option Operator
operator_at k (Fixed s ∷ ts) = of_rank k (operator_of s)
operator_at k _ = None

-- with an operator before them, an operand and further ones
abbrev pub link_at : Reader Tree → Reader Tail → Option Operator → Reader Tail
link_at operand more None ts = Ok (done, ts)
link_at operand more (Some o) ts = do
  x ← operand (drop 1 ts)
  y ← more x.1
  Ok (link o x.0 y.0, y.1)

-- at most so many further operands of a level
unfoldable pub tail_within : Reader Tree → ℕ → ℕ → Reader Tail
tail_within operand k zero ts = Ok (done, ts)
tail_within operand k (suc n) ts = link_at operand (tail_within operand k n) (operator_at k ts) ts

-- further operands of a level
unfoldable pub tail_at : Reader Tree → ℕ → Reader Tail
tail_at operand k ts = tail_within operand k (length ts) ts

-- operands of a level, where a level below is read so
unfoldable pub joined_at : Reader Tree → ℕ → Reader Tree
joined_at operand k ts = do
  x ← operand ts
  y ← tail_at operand k x.1
  Ok (chain_of x.0 y.0, y.1)

unfoldable pub level_at : Reader Tree → ℕ → Reader Tree
level_at primary zero = primary
level_at primary (suc k) = joined_at (level_at primary k) k

abbrev pub number : Mark → ℕ
number Module = 0
number EndModule = 1
number Input = 2
number Output = 3
number Wire = 4
number Assign = 5
number Open = 6
number Close = 7
number Comma = 8
number Semicolon = 9
number Equals = 10
number Tilde = 11
number Ampersand = 12
number Caret = 13
number TildeCaret = 14
number Bar = 15

-- what stands behind a mark, if this one is at the front
abbrev pub behind : Mark → List Terminal → Result (List Terminal) Stop
behind s (Fixed r ∷ ts) = if nat_eq (number r) (number s) then Ok ts else stops Other (Fixed r ∷ ts)
behind s ts = stops Other ts

-- what stands behind a `~`
abbrev pub inverse_with : Reader Tree → Reader Tree
inverse_with primary ts = do
  x ← primary ts
  Ok (inverse x.0, x.1)

-- what stands behind a `(`
abbrev pub group_with : Reader Tree → Reader Tree
group_with expr ts = do
  x ← expr ts
  rest ← behind Close x.1
  Ok (group x.0, rest)

-- what a mark begins
abbrev pub nested_with : Mark → Reader Tree → Reader Tree → Reader Tree
nested_with Tilde primary expr ts = inverse_with primary ts
nested_with Open primary expr ts = group_with expr ts
nested_with s primary expr ts = stops Primary (Fixed s ∷ ts)

-- a primary, where what nests in it is read so
abbrev pub primary_with : Reader Tree → Reader Tree → Reader Tree
primary_with primary expr (Name n ∷ ts) = Ok (net n, ts)
primary_with primary expr (Bit b ∷ ts) = Ok (bit b, ts)
primary_with primary expr (Fixed s ∷ ts) = nested_with s primary expr ts
primary_with primary expr ts = stops Primary ts

-- A primary in which nothing nests deeper than this.
unfoldable pub primary_at : ℕ → Reader Tree
primary_at zero ts = primary_with too_deep too_deep ts
primary_at (suc depth) ts = primary_with (primary_at depth) (level_at (primary_at depth) 3) ts

-- An expression in which nothing nests deeper than this.
abbrev pub expr_at : ℕ → Reader Tree
expr_at depth = level_at (primary_at depth) 3

-- the same behind a `~` and a `(`
abbrev pub inverse_at : ℕ → Reader Tree
inverse_at zero ts = too_deep ts
inverse_at (suc depth) ts = inverse_with (primary_at depth) ts

abbrev pub group_at : ℕ → Reader Tree
group_at zero ts = too_deep ts
group_at (suc depth) ts = group_with (expr_at depth) ts
