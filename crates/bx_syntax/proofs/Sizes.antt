-- A module has at least as many terminals as it has names, operators and bits.
use Rattle.std.proofs.Common.{◌≡◌, ℕ, ◌+◌, ◌≤◌, List, [], ◌∷◌, length, length-append, Option, Some, None, ap, inl, inr, arith}
use Rattle.std.specs.List.{sum_by}
use Rattle.std.proofs.lemmas.List.Sums.{sum_by-cons}
use Rattle.bx_lex.specs.declared.token.Token.{Token}
use Rattle.bx_lex.specs.Tokens.{AreSpans}
use Rattle.bx_logic.specs.declared.op.Op.{Op}
use Rattle.bx_syntax.specs.declared.terminal.Terminal.{Terminal}
use Rattle.bx_syntax.specs.declared.terminal.Terminal.TheVariants.{Fixed, Name}
use Rattle.bx_syntax.specs.declared.terminal.Mark.TheVariants.{Module as ModuleWord, Open, Close, Comma, Semicolon, Equals}
use Rattle.bx_syntax.specs.declared.tree.Direction.{Direction}
use Rattle.bx_syntax.specs.declared.tree.Port.{Port}
use Rattle.bx_syntax.specs.declared.part.Kind.{Kind}
use Rattle.bx_syntax.specs.declared.part.Kind.TheVariants.{Declaration, Wire, Assign, Gate}
use Rattle.bx_syntax.specs.Trees.{Tree, net, bit, inverse, group, joined, Tail, done, link}
use Rattle.bx_syntax.specs.Parts.{PartTree, declaration, wire, assign, gate, copies, ModuleTree}
use Rattle.bx_syntax.specs.Sizes.{tree_size, tail_size, part_size, item_size, module_size}
use Rattle.bx_syntax.specs.Expressions.{spelling, tail_spelling}
use Rattle.bx_syntax.specs.Grammar.{Between, IsName, AreMore, AreListed, IsExpr, IsWire, IsGate, IsPart, AreItems, IsDirected, ArePortsBehind, ArePorts, IsHeader, IsModule}
use Rattle.bx_syntax.proofs.ReadsModules.{is_shorter, label_shorter, head_shorter}

mutual
  tree_spelled : (t : Tree) → tree_size t ≤ length (spelling t)
  tree_spelled (net n) = omega arith
  tree_spelled (bit b) = omega arith
  tree_spelled (inverse t) = omega (arith, tree_spelled t)
  tree_spelled (group t) = simp length-append (omega (arith, tree_spelled t))
  tree_spelled (joined t o u ts) = simp length-append (omega (arith, tree_spelled t, tree_spelled u, tail_spelled ts))

  tail_spelled : (ts : Tail) → tail_size ts ≤ length (tail_spelling ts)
  tail_spelled done = omega arith
  tail_spelled (link o t ts) = simp length-append (omega (arith, tree_spelled t, tail_spelled ts))

-- What is between two lists of terminals has at least so many.
abbrev Fits : {A : Type 0} → (A → ℕ) → (A → Between) → Type 0
Fits {A = A} count IsX = (x : A) (ts rest : List Terminal) → IsX x ts rest → count x + length rest ≤ length ts

more_fits : {A : Type 0} (count : A → ℕ) (IsX : A → Between) → Fits count IsX → (xs : List A) (ts rest : List Terminal) → AreMore IsX xs ts rest →
    sum_by count xs + length rest ≤ length ts
more_fits count IsX f [] ts rest e = omega (arith, ap length e)
more_fits count IsX f (x ∷ xs) ts rest (a, b, c, is, more) = omega (arith, sum_by-cons count x xs, is_shorter (Fixed Comma) ts a c, f x a b is, more_fits count IsX f xs b rest more)

listed_fits : {A : Type 0} (count : A → ℕ) (IsX : A → Between) → Fits count IsX → (xs : List A) (ts rest : List Terminal) → AreListed IsX xs ts rest →
    sum_by count xs + length rest ≤ length ts
listed_fits count IsX f [] ts rest e = absurd e
listed_fits count IsX f (x ∷ xs) ts rest (a, is, more) = omega (arith, sum_by-cons count x xs, f x ts a is, more_fits count IsX f xs a rest more)

names_count : (ns : List (List ℕ)) → sum_by (λ n. 1) ns ≡ length ns
names_count [] = omega arith
names_count (n ∷ ns) = omega (arith, sum_by-cons (λ (m : List ℕ). 1) n ns, names_count ns)

name_fits : Fits (λ n. 1) IsName
name_fits n ts rest e = omega (arith, is_shorter (Name n) ts rest e)

module _ (limit : ℕ) where
  expr_fits : Fits tree_size (IsExpr limit)
  expr_fits t ts rest h = omega (arith, ap length h.2, length-append (spelling t) rest, tree_spelled t)

  wire_fits : (n : List ℕ) (e : Option Tree) (ts rest : List Terminal) → IsWire limit n e ts rest → part_size (wire n e) + length rest ≤ length ts
  wire_fits n None ts rest h = omega (arith, is_shorter (Name n) ts rest h)
  wire_fits n (Some e) ts rest (a, b, name, equals, expr) =
      omega (arith, is_shorter (Name n) ts a name, is_shorter (Fixed Equals) a b equals, expr_fits e b rest expr)

  gate_fits : (op : Op) → Fits part_size (IsGate limit op)
  gate_fits op (gate o n es) ts rest (same, x, y, (a, b, c, d, p, q, r, s, t)) =
      omega (arith, is_shorter (Fixed Open) ts a p, is_shorter (Name n) a b q, is_shorter (Fixed Comma) b c r, listed_fits tree_size (IsExpr limit) expr_fits es c d s, is_shorter (Fixed Close) d rest t)
  gate_fits op (copies o ns e) ts rest (same, x, (a, b, c, d, p, q, r, s, t)) =
      omega (arith, is_shorter (Fixed Open) ts a p, listed_fits (λ n. 1) IsName name_fits ns a b q, names_count ns, is_shorter (Fixed Comma) b c r, expr_fits e c d s, is_shorter (Fixed Close) d rest t)
  gate_fits op _ ts rest h = absurd h

  part_fits : (k : Kind) → Fits part_size (IsPart limit k)
  part_fits (Declaration d) (declaration e n) ts rest h = omega (arith, is_shorter (Name n) ts rest h.1)
  part_fits Wire (wire n e) ts rest h = wire_fits n e ts rest h
  part_fits Assign (assign n e) ts rest h = wire_fits n (Some e) ts rest h
  part_fits (Gate op) p ts rest (a, l, g) = omega (arith, label_shorter ts a l, gate_fits op p a rest g)
  part_fits _ _ ts rest h = absurd h

  items_fit : (items : List (List PartTree)) (ts rest : List Terminal) → AreItems limit items ts rest → sum_by item_size items + length rest ≤ length ts
  items_fit [] ts rest e = omega (arith, ap length e)
  items_fit (i ∷ items) ts rest (a, (k, b, c, head, listed, e), more) =
      omega (arith, sum_by-cons item_size i items, head_shorter k ts b head, listed_fits part_size (IsPart limit k) (part_fits k) i b c listed, is_shorter (Fixed Semicolon) c a e, items_fit items a rest more)

directed_fits : (p : Port) (ts rest : List Terminal) → IsDirected p ts rest → 1 + length rest ≤ length ts
directed_fits p ts rest (d, a, same, heads, name) = omega (arith, head_shorter (Declaration d) ts a heads, is_shorter (Name p.name) a rest name)

ports_behind_fit : (d : Option Direction) (ps : List Port) (ts rest : List Terminal) → ArePortsBehind d ps ts rest → length ps + length rest ≤ length ts
ports_behind_fit d [] ts rest e = omega (arith, ap length e)
ports_behind_fit d (p ∷ ps) ts rest (a, b, c, inl plain, more) =
    omega (arith, is_shorter (Fixed Comma) ts a c, is_shorter (Name p.name) a b plain.1, ports_behind_fit p.direction ps b rest more)
ports_behind_fit d (p ∷ ps) ts rest (a, b, c, inr directed, more) =
    omega (arith, is_shorter (Fixed Comma) ts a c, directed_fits p a b directed.1, ports_behind_fit p.direction ps b rest more)

ports_fit : (ps : List Port) (ts rest : List Terminal) → ArePorts ps ts rest → length ps + length rest ≤ length ts
ports_fit [] ts rest h = absurd h
ports_fit (p ∷ ps) ts rest (a, inl plain, more) = omega (arith, is_shorter (Name p.name) ts a plain.1, ports_behind_fit p.direction ps a rest more)
ports_fit (p ∷ ps) ts rest (a, inr directed, more) = omega (arith, directed_fits p ts a directed, ports_behind_fit p.direction ps a rest more)

header_fits : (ps : List Port) (ts rest : List Terminal) → IsHeader ps ts rest → length ps + length rest ≤ length ts
header_fits ps ts rest (inl (none, same)) = omega (arith, ap length none, ap length same)
header_fits ps ts rest (inr (a, b, opens, inl (none, same), closing)) =
    omega (arith, is_shorter (Fixed Open) ts a opens, ap length none, ap length same, is_shorter (Fixed Close) b rest closing)
header_fits ps ts rest (inr (a, b, opens, inr ports, closing)) =
    omega (arith, is_shorter (Fixed Open) ts a opens, ports_fit ps a b ports, is_shorter (Fixed Close) b rest closing)

pub module_fits : (limit : ℕ) (m : ModuleTree) (ts : List Terminal) → IsModule limit m ts → module_size m ≤ length ts
module_fits limit m ts h =
    omega (
      arith,
      is_shorter (Fixed ModuleWord) ts h.named h.begins,
      is_shorter (Name m.name) h.named h.headed h.name,
      header_fits m.ports h.headed h.ended h.header,
      is_shorter (Fixed Semicolon) h.ended h.body h.semicolon,
      items_fit limit m.items h.body h.last h.items,
    )

-- Spans in order, none of them empty, are no more than there is room for.
pub spans_fit : (from to : ℕ) (ts : List Token) → AreSpans from ts to → from + length ts ≤ to
spans_fit from to [] h = omega arith
spans_fit from to (t ∷ ts) h = omega (arith, spans_fit t.end to ts h.2)
