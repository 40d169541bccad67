-- The fault of a list of tokens that is no module: the first token with which the text begins none.
use Rattle.std.specs.Prelude.{◌≡◌, ℕ, ◌+◌, ◌<◌, ◌≤◌, false, ◌==◌, if◌then◌else◌, List, [], ◌∷◌, ◌++◌, length, take, Option, Some, None, slice_get}
use Rattle.bx_lex.specs.declared.token.Token.{Token}
use Rattle.bx_lex.specs.Tokens.{TokenList}
use Rattle.bx_syntax.specs.declared.terminal.Terminal.{Terminal}
use Rattle.bx_syntax.specs.declared.terminal.Terminal.TheVariants.{Fixed, Name, Bit, Number, Reserved, Symbol}
use Rattle.bx_syntax.specs.declared.terminal.Mark.TheVariants.{Module as ModuleWord, Assign as AssignWord}
use Rattle.bx_syntax.specs.declared.fault.Construct.{Construct}
use Rattle.bx_syntax.specs.declared.fault.Construct.TheVariants.{Vector, Ternary, Delay, Concat, Operator, Directive, Instance, Second, Number as OtherNumber, Reserved as ReservedWord}
use Rattle.bx_syntax.specs.declared.fault.ReadFault.{ReadFault}
use Rattle.bx_syntax.specs.declared.fault.ReadFault.TheVariants.{Syntax, NotTaken, TooDeep, NoMemory}
use Rattle.bx_syntax.specs.Parts.{ModuleTree}
use Rattle.bx_syntax.specs.Terminals.{terminals_of}
use Rattle.bx_syntax.specs.Grammar.{IsModule}

-- Some module in which nothing nests deeper than the limit begins with these terminals.
pub record Begins (limit : ℕ) (ts : List Terminal) : Type 0 where
  pub rest : List Terminal
  pub tree : ModuleTree
  pub is_module : IsModule limit tree (ts ++ rest)

-- Some module begins with the first k of these terminals, and none with one more. Where there is none
-- more, the terminals are no module.
pub record Stops (limit : ℕ) (ts : List Terminal) (k : ℕ) : Type 0 where
  pub within : k ≤ length ts
  pub begins : Begins limit (take k ts)
  pub bad : k < length ts → Begins limit (take (k + 1) ts) → ⊥
  pub ended : k ≡ length ts → (m : ModuleTree) → IsModule limit m ts → ⊥

-- the next terminal is there, and would do if more might nest
abbrev pub IsDeep : List Terminal → ℕ → Type 0
IsDeep ts k = (k < length ts) × ((limit : ℕ) × Begins limit (take (k + 1) ts))

-- the construct that a symbol stands for
abbrev pub symbol_construct : ℕ → Option Construct
symbol_construct b =
    if b == 91 then Some Vector
    else (if b == 63 then Some Ternary
    else (if b == 35 then Some Delay
    else (if b == 123 then Some Concat
    else (if b == 43 then Some Operator
    else (if b == 45 then Some Operator
    else (if b == 42 then Some Operator
    else (if b == 47 then Some Operator
    else (if b == 37 then Some Operator
    else (if b == 60 then Some Operator
    else (if b == 62 then Some Operator
    else (if b == 33 then Some Operator
    else (if b == 96 then Some Directive
    else None))))))))))))

-- The construct of a terminal that may not stand behind these. A symbol and a refused word are one
-- anywhere, a name where an item may begin, a number where a primary may, and `module` behind a module.
-- `assign` begins an item and nothing else, and a bit is a primary and nothing else.
abbrev pub IsConstruct : ℕ → List Terminal → Terminal → Construct → Type 0
IsConstruct limit ts (Symbol b) c = symbol_construct b ≡ Some c
IsConstruct limit ts Reserved c = c ≡ ReservedWord
IsConstruct limit ts (Name n) c = (c ≡ Instance) × Begins limit (ts ++ Fixed AssignWord ∷ [])
IsConstruct limit ts Number c = (c ≡ OtherNumber) × Begins limit (ts ++ Bit false ∷ [])
IsConstruct limit ts (Fixed ModuleWord) c = (c ≡ Second) × ((m : ModuleTree) × IsModule limit m ts)
IsConstruct limit ts _ c = ⊥

-- the construct of the terminal behind the first k
abbrev pub IsConstructAt : ℕ → List Terminal → ℕ → Construct → Type 0
IsConstructAt limit ts k c = (t : Terminal) × (slice_get ts k ≡ Some t) × IsConstruct limit (take k ts) t c

-- where a token begins; the end of the text behind the last one
abbrev pub start_or : ℕ → Option Token → ℕ
start_or end None = end
start_or end (Some t) = t.start

abbrev pub place_of : TokenList → ℕ → ℕ
place_of found k = start_or found.end (slice_get found.tokens k)

-- what is wrong with terminals of these tokens
abbrev pub IsFault : ℕ → List Terminal → TokenList → ReadFault → Type 0
IsFault limit ts found (Syntax place) =
    (k : ℕ) × (place ≡ place_of found k) × Stops limit ts k × (IsDeep ts k → ⊥) × ((c : Construct) → IsConstructAt limit ts k c → ⊥)
IsFault limit ts found (NotTaken place c) =
    (k : ℕ) × (place ≡ place_of found k) × Stops limit ts k × (IsDeep ts k → ⊥) × IsConstructAt limit ts k c
IsFault limit ts found (TooDeep place) =
    (k : ℕ) × (place ≡ place_of found k) × Stops limit ts k × IsDeep ts k
IsFault limit ts found NoMemory = ⊥

-- The tokens of a text have this tree, in which nothing nests deeper than 256.
abbrev pub IsTreeOf : List ℕ → TokenList → ModuleTree → Type 0
IsTreeOf text found m = IsModule 256 m (terminals_of text found.tokens)

-- The fault of a text with these tokens: where the first bad token stands, and what it is. Nothing nests
-- deeper than 256.
abbrev pub HasReadFault : List ℕ → TokenList → ReadFault → Type 0
HasReadFault text found fault = IsFault 256 (terminals_of text found.tokens) found fault
