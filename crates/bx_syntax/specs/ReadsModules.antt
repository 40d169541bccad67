-- Reading a module, from its first terminal to its last, or where reading stops.
use Rattle.std.specs.Prelude.{◌≡◌, ℕ, Bool, true, false, not, ◌&&◌, if◌then◌else◌, List, [], ◌∷◌, Option, Some, None, Result, Ok, Err, is_ok}
use Rattle.std.specs.Option.{is_some}
use Rattle.bx_lex.specs.Tokens.{TokenList}
use Rattle.bx_logic.specs.declared.op.Op.{Op}
use Rattle.bx_logic.specs.declared.op.Op.TheVariants.{Buf, Not}
use Rattle.bx_syntax.specs.declared.terminal.Terminal.{Terminal}
use Rattle.bx_syntax.specs.declared.terminal.Terminal.TheVariants.{Fixed, GateWord, Name}
use Rattle.bx_syntax.specs.declared.terminal.Mark.{Mark}
use Rattle.bx_syntax.specs.declared.terminal.Mark.TheVariants.{Module as ModuleWord, EndModule, Input as InputWord, Output as OutputWord, Wire as WireWord, Assign as AssignWord, Open, Close, Comma, Semicolon, Equals}
use Rattle.bx_syntax.specs.declared.stop.Stop.{Stop}
use Rattle.bx_syntax.specs.declared.stop.Wanted.{Wanted}
use Rattle.bx_syntax.specs.declared.stop.Wanted.TheVariants.{Item, End, Other}
use Rattle.bx_syntax.specs.declared.tree.Direction.{Direction}
use Rattle.bx_syntax.specs.declared.tree.Direction.TheVariants.{Input, Output}
use Rattle.bx_syntax.specs.declared.tree.Port.{Port}
use Rattle.bx_syntax.specs.declared.part.Kind.{Kind}
use Rattle.bx_syntax.specs.declared.part.Kind.TheVariants.{Declaration, Wire, Assign, Gate}
use Rattle.bx_syntax.specs.Trees.{Tree, net}
use Rattle.bx_syntax.specs.Parts.{PartTree, declaration, wire, assign, gate, copies, ModuleTree}
use Rattle.bx_syntax.specs.ReadsExpressions.{Reader, ◌>>=◌, stops, behind, expr_at}
use Rattle.bx_syntax.specs.Repeats.{repeated, ahead_of}
use Rattle.bx_syntax.specs.Terminals.{terminals_of}

-- what a terminal says, or a stop before it
abbrev pub or_stop : {A : Type 0} → Wanted → List Terminal → Option A → Result A Stop
or_stop wanted ts (Some x) = Ok x
or_stop wanted ts None = stops wanted ts

abbrev pub next_is : Mark → List Terminal → Bool
next_is s ts = is_ok (behind s ts)

abbrev pub name_at : Reader (List ℕ)
name_at (Name n ∷ ts) = Ok (n, ts)
name_at ts = stops Other ts

-- the same list, or what stands behind its first terminal if this one is a mark, or a name
abbrev pub past : Mark → List Terminal → List Terminal
past s (Fixed r ∷ ts) = if next_is s (Fixed r ∷ ts) then ts else Fixed r ∷ ts
past s ts = ts

abbrev pub past_name : List Terminal → List Terminal
past_name (Name n ∷ ts) = ts
past_name ts = ts

abbrev pub comma_next : Unit {0} → List Terminal → Bool
comma_next s ts = next_is Comma ts

-- [ name ] '(' name ',': the name that a gate drives, or the first of them
abbrev pub driven_at : Reader (List ℕ)
driven_at ts = do
  a ← behind Open (past_name ts)
  n ← name_at a
  b ← behind Comma n.1
  Ok (n.0, b)

-- behind a comma, what is read so
abbrev pub comma_step : {A : Type 0} → Reader A → Unit {0} → Reader (A × Unit {0})
comma_step p s ts = behind Comma ts >>= λ r. p r >>= λ x. Ok ((x.0, s), x.1)

-- the first, which is read, and { ',' x }
abbrev pub more_at : {A : Type 0} → Reader A → A → Reader (List A × Unit {0})
more_at p x ts = ahead_of (x ∷ []) (repeated comma_next (comma_step p) tt ts)

-- x { ',' x }
abbrev pub listed_at : {A : Type 0} → Reader A → Reader (List A)
listed_at p ts = p ts >>= λ x. more_at p x.0 x.1 >>= λ y. Ok (y.0.0, y.1)

abbrev pub is_net : Tree → Bool
is_net (net n) = true
is_net _ = false

abbrev pub net_name : Tree → List ℕ
net_name (net n) = n
net_name _ = []

-- behind a name that was read as an expression, a comma and the next one
abbrev pub comma_behind_net : Tree → List Terminal → Bool
comma_behind_net t ts = next_is Comma ts && is_net t

-- what the first word of an item says
abbrev pub kind_of : Mark → Option Kind
kind_of InputWord = Some (Declaration Input)
kind_of OutputWord = Some (Declaration Output)
kind_of WireWord = Some Wire
kind_of AssignWord = Some Assign
kind_of _ = None

-- behind that word, what may be left out
abbrev pub past_wire : Kind → List Terminal → List Terminal
past_wire (Declaration d) ts = past WireWord ts
past_wire _ ts = ts

abbrev pub kind_at : Reader Kind
kind_at (GateWord op ∷ ts) = Ok (Gate op, ts)
kind_at (Fixed s ∷ ts) = or_stop Item (Fixed s ∷ ts) (kind_of s) >>= λ k. Ok (k, past_wire k ts)
kind_at ts = stops Item ts

abbrev pub item_next : Unit {0} → List Terminal → Bool
item_next s [] = false
item_next s (t ∷ ts) = not (next_is EndModule (t ∷ ts))

-- a port: a name alone has the direction of the port before it, if that one has a direction
abbrev pub port_behind : Direction → Reader Port
port_behind d ts = name_at (past WireWord ts) >>= λ n. Ok (record { name = n.0; direction = Some d }, n.1)

abbrev pub direction_of : Mark → Option Direction
direction_of InputWord = Some Input
direction_of OutputWord = Some Output
direction_of _ = None

abbrev pub port_at : Bool → Option Direction → Reader Port
port_at words d (Name n ∷ ts) = Ok (record { name = n; direction = d }, ts)
port_at words d (Fixed s ∷ ts) = if words then (or_stop Other (Fixed s ∷ ts) (direction_of s) >>= λ e. port_behind e ts) else stops Other (Fixed s ∷ ts)
port_at words d ts = stops Other ts

abbrev pub comma_port : Option Direction → Reader (Port × Option Direction)
comma_port d ts = behind Comma ts >>= λ r. port_at (is_some d) d r >>= λ p. Ok ((p.0, p.0.direction), p.1)

abbrev pub port_next : Option Direction → List Terminal → Bool
port_next d ts = next_is Comma ts

-- the first port, which is read, and those behind it
abbrev pub more_ports_at : Port → Reader (List Port × Option Direction)
more_ports_at p ts = ahead_of (p ∷ []) (repeated port_next comma_port p.direction ts)

unfoldable pub ports_at : Reader (List Port)
ports_at ts = do
  p ← port_at true None ts
  ps ← more_ports_at p.0 p.1
  Ok (ps.0.0, ps.1)

unfoldable pub header_at : Reader (List Port)
header_at ts =
    if next_is Open ts
    then (behind Open ts >>= λ a.
    if next_is Close a then (behind Close a >>= λ r. Ok ([], r))
    else (ports_at a >>= λ ps. behind Close ps.1 >>= λ r. Ok (ps.0, r)))
    else Ok ([], ts)

abbrev pub at_end : List Terminal → Result (List Terminal) Stop
at_end [] = Ok []
at_end (t ∷ ts) = stops End (t ∷ ts)

module _ (limit : ℕ) where
  -- an expression in which nothing nests deeper than the limit
  unfoldable pub expression : Reader Tree
  expression ts = expr_at limit ts

  unfoldable pub wire_at : Reader PartTree
  wire_at ts = do
    n ← name_at ts
    if next_is Equals n.1
        then (behind Equals n.1 >>= λ r. expression r >>= λ e. Ok (wire n.0 (Some e.0), e.1))
        else Ok (wire n.0 None, n.1)

  unfoldable pub assign_at : Reader PartTree
  assign_at ts = do
    n ← name_at ts
    r ← behind Equals n.1
    e ← expression r
    Ok (assign n.0 e.0, e.1)

  unfoldable pub many_at : Op → List ℕ → Reader PartTree
  many_at op n ts = do
    es ← listed_at expression ts
    Ok (gate op n es.0, es.1)

  abbrev pub name_and_expression : Tree → Reader (List ℕ × Tree)
  name_and_expression t ts = behind Comma ts >>= λ r. expression r >>= λ e. Ok ((net_name t, e.0), e.1)

  -- the first name, which is read, those behind it, and the expression behind the last of them
  abbrev pub more_names_at : List ℕ → Tree → Reader (List (List ℕ) × Tree)
  more_names_at n e ts = ahead_of (n ∷ []) (repeated comma_behind_net name_and_expression e ts)

  unfoldable pub few_at : Op → List ℕ → Reader PartTree
  few_at op n ts = do
    e ← expression ts
    es ← more_names_at n e.0 e.1
    Ok (copies op es.0.0 es.0.1, es.1)

  abbrev pub connections_at : Op → List ℕ → Reader PartTree
  connections_at Buf n ts = few_at Buf n ts
  connections_at Not n ts = few_at Not n ts
  connections_at op n ts = many_at op n ts

  unfoldable pub gate_at : Op → Reader PartTree
  gate_at op ts = do
    n ← driven_at ts
    c ← connections_at op n.0 n.1
    d ← behind Close c.1
    Ok (c.0, d)

  abbrev pub part_at : Kind → Reader PartTree
  part_at (Declaration d) ts = name_at ts >>= λ n. Ok (declaration d n.0, n.1)
  part_at Wire ts = wire_at ts
  part_at Assign ts = assign_at ts
  part_at (Gate op) ts = gate_at op ts

  unfoldable pub item_at : Reader (List PartTree)
  item_at ts = do
    k ← kind_at ts
    ps ← listed_at (part_at k.0) k.1
    r ← behind Semicolon ps.1
    Ok (ps.0, r)

  abbrev pub one_item : Unit {0} → Reader (List PartTree × Unit {0})
  one_item s ts = item_at ts >>= λ x. Ok ((x.0, s), x.1)

  abbrev pub items_at : Reader (List (List PartTree) × Unit {0})
  items_at ts = repeated item_next one_item tt ts

  -- a module and nothing behind it
  unfoldable pub module_at : Reader ModuleTree
  module_at ts = do
    a ← behind ModuleWord ts
    n ← name_at a
    h ← header_at n.1
    b ← behind Semicolon h.1
    s ← items_at b
    c ← behind EndModule s.1
    d ← at_end c
    Ok (record { name = n.0; ports = h.0; items = s.0.0 }, d)

-- reading a text with these tokens stops so
abbrev pub StopsBy : List ℕ → TokenList → Stop → Type 0
StopsBy text found stop = module_at 256 (terminals_of text found.tokens) ≡ Err stop
