-- The grammar of a module. Each of its productions is a relation of a tree and two lists of terminals:
-- the first list begins with what the tree stands for, and goes on with the second. Where the grammar
-- has an option that the tree doesn't keep, several lists have one tree. In no expression does anything
-- nest deeper than the limit.
use Rattle.std.specs.Prelude.{◌≡◌, ◌≢◌, ℕ, ◌≤◌, ◌⊎◌, List, [], ◌∷◌, ◌++◌, Option, Some, None, IsSome}
use Rattle.bx_logic.specs.declared.op.Op.{Op}
use Rattle.bx_logic.specs.declared.op.Op.TheVariants.{Buf, Not}
use Rattle.bx_syntax.specs.declared.terminal.Terminal.{Terminal}
use Rattle.bx_syntax.specs.declared.terminal.Terminal.TheVariants.{Fixed, GateWord, Name}
use Rattle.bx_syntax.specs.declared.terminal.Mark.TheVariants.{Module as ModuleWord, EndModule, Input as InputWord, Output as OutputWord, Wire as WireWord, Assign as AssignWord, Open, Close, Comma, Semicolon, Equals}
use Rattle.bx_syntax.specs.declared.tree.Direction.{Direction}
use Rattle.bx_syntax.specs.declared.tree.Direction.TheVariants.{Input, Output}
use Rattle.bx_syntax.specs.declared.tree.Port.{Port}
use Rattle.bx_syntax.specs.declared.part.Kind.{Kind}
use Rattle.bx_syntax.specs.declared.part.Kind.TheVariants.{Declaration, Wire, Assign, Gate}
use Rattle.bx_syntax.specs.Trees.{Tree}
use Rattle.bx_syntax.specs.Parts.{PartTree, declaration, wire, assign, gate, copies, ModuleTree}
use Rattle.bx_syntax.specs.Expressions.{IsAt, spelling, nesting}

-- two lists of terminals, of which the second is the rest of the first
abbrev pub Between : Type 1
Between = List Terminal → List Terminal → Type 0

abbrev pub Is : Terminal → Between
Is t ts rest = ts ≡ t ∷ rest

abbrev pub IsOptional : Terminal → Between
IsOptional t ts rest = (ts ≡ rest) ⊎ Is t ts rest

abbrev pub IsName : List ℕ → Between
IsName n = Is (Name n)

-- [ name ]
abbrev pub IsLabel : Between
IsLabel ts rest = (ts ≡ rest) ⊎ ((n : List ℕ) × IsName n ts rest)

-- { ',' x }
abbrev pub AreMore : {A : Type 0} → (A → Between) → List A → Between
AreMore IsX [] ts rest = ts ≡ rest
AreMore IsX (x ∷ xs) ts rest = (a : List Terminal) × (b : List Terminal) × Is (Fixed Comma) ts a × IsX x a b × AreMore IsX xs b rest

-- x { ',' x }
abbrev pub AreListed : {A : Type 0} → (A → Between) → List A → Between
AreListed IsX [] ts rest = ⊥
AreListed IsX (x ∷ xs) ts rest = (a : List Terminal) × IsX x ts a × AreMore IsX xs a rest

abbrev pub word : Direction → Terminal
word Input = Fixed InputWord
word Output = Fixed OutputWord

-- ( 'input' | 'output' ) [ 'wire' ]
abbrev pub IsDirection : Direction → Between
IsDirection d ts rest = (a : List Terminal) × Is (word d) ts a × IsOptional (Fixed WireWord) a rest

-- what stands before the parts of an item of a kind
abbrev pub IsHead : Kind → Between
IsHead (Declaration d) = IsDirection d
IsHead Wire = Is (Fixed WireWord)
IsHead Assign = Is (Fixed AssignWord)
IsHead (Gate op) = Is (GateWord op)

module _ (limit : ℕ) where
  abbrev pub IsExpr : Tree → Between
  IsExpr t ts rest = IsAt 3 t × (nesting t ≤ limit) × (ts ≡ spelling t ++ rest)

  -- name [ '=' expr ], name '=' expr
  abbrev pub IsWire : List ℕ → Option Tree → Between
  IsWire n None ts rest = IsName n ts rest
  IsWire n (Some e) ts rest = (a : List Terminal) × (b : List Terminal) × IsName n ts a × Is (Fixed Equals) a b × IsExpr e b rest

  -- '(' name ',' expr { ',' expr } ')'
  abbrev pub IsMany : List ℕ → List Tree → Between
  IsMany n es ts rest =
      (a : List Terminal) × (b : List Terminal) × (c : List Terminal) × (d : List Terminal) × Is (Fixed Open) ts a × IsName n a b × Is (Fixed Comma) b c × AreListed IsExpr es c d × Is (Fixed Close) d rest

  -- '(' name { ',' name } ',' expr ')'
  abbrev pub IsFew : List (List ℕ) → Tree → Between
  IsFew ns e ts rest =
      (a : List Terminal) × (b : List Terminal) × (c : List Terminal) × (d : List Terminal) × Is (Fixed Open) ts a × AreListed IsName ns a b × Is (Fixed Comma) b c × IsExpr e c d × Is (Fixed Close) d rest

  -- the gates of several arguments, and those of one
  abbrev pub IsGate : Op → PartTree → Between
  IsGate op (gate o n es) ts rest = (o ≡ op) × (op ≢ Buf) × (op ≢ Not) × IsMany n es ts rest
  IsGate op (copies o ns e) ts rest = (o ≡ op) × ((op ≡ Buf) ⊎ (op ≡ Not)) × IsFew ns e ts rest
  IsGate op _ ts rest = ⊥

  -- what stands between two commas of an item of a kind
  abbrev pub IsPart : Kind → PartTree → Between
  IsPart (Declaration d) (declaration e n) ts rest = (d ≡ e) × IsName n ts rest
  IsPart Wire (wire n e) ts rest = IsWire n e ts rest
  IsPart Assign (assign n e) ts rest = IsWire n (Some e) ts rest
  IsPart (Gate op) p ts rest = (a : List Terminal) × IsLabel ts a × IsGate op p a rest
  IsPart _ _ ts rest = ⊥

  abbrev pub IsItem : List PartTree → Between
  IsItem ps ts rest = (k : Kind) × (a : List Terminal) × (b : List Terminal) × IsHead k ts a × AreListed (IsPart k) ps a b × Is (Fixed Semicolon) b rest

  abbrev pub AreItems : List (List PartTree) → Between
  AreItems [] ts rest = ts ≡ rest
  AreItems (i ∷ items) ts rest = (a : List Terminal) × IsItem i ts a × AreItems items a rest

-- a name alone, which has the direction of the port before it
abbrev pub IsPlain : Option Direction → Port → Between
IsPlain d p ts rest = (p.direction ≡ d) × IsName p.name ts rest

-- a name with its direction
abbrev pub IsDirected : Port → Between
IsDirected p ts rest = (d : Direction) × (a : List Terminal) × (p.direction ≡ Some d) × IsDirection d ts a × IsName p.name a rest

-- further ports, behind one of this direction; only where that one has a direction may another be given
abbrev pub ArePortsBehind : Option Direction → List Port → Between
ArePortsBehind d [] ts rest = ts ≡ rest
ArePortsBehind d (p ∷ ps) ts rest =
    (a : List Terminal) × (b : List Terminal) × Is (Fixed Comma) ts a × (IsPlain d p a b ⊎ (IsSome d × IsDirected p a b)) × ArePortsBehind p.direction ps b rest

abbrev pub ArePorts : List Port → Between
ArePorts [] ts rest = ⊥
ArePorts (p ∷ ps) ts rest = (a : List Terminal) × (IsPlain None p ts a ⊎ IsDirected p ts a) × ArePortsBehind p.direction ps a rest

-- [ '(' [ ports ] ')' ]
abbrev pub IsHeader : List Port → Between
IsHeader ps ts rest =
    ((ps ≡ []) × (ts ≡ rest))
    ⊎ ((a : List Terminal) × (b : List Terminal) × Is (Fixed Open) ts a × (((ps ≡ []) × (a ≡ b)) ⊎ ArePorts ps a b) × Is (Fixed Close) b rest)

-- A module, and nothing behind it.
pub record IsModule (limit : ℕ) (m : ModuleTree) (ts : List Terminal) : Type 0 where
  pub named : List Terminal
  pub headed : List Terminal
  pub ended : List Terminal
  pub body : List Terminal
  pub last : List Terminal
  pub begins : Is (Fixed ModuleWord) ts named
  pub name : IsName m.name named headed
  pub header : IsHeader m.ports headed ended
  pub semicolon : Is (Fixed Semicolon) ended body
  pub items : AreItems limit m.items body last
  pub ends : Is (Fixed EndModule) last []
