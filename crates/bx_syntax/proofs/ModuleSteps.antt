-- What the code of the readers needs besides: that a module is read again and has one tree, and the steps of the loops.
use Rattle.std.proofs.Common.{◌≡◌, ℕ, ◌+◌, ◌≤◌, Bool, true, false, ◌&&◌, List, [], ◌∷◌, Option, None, Some, refl, sym, ap, ◌∙◌, inl, inr, arith}
use Rattle.std.specs.Prelude.{Result, Ok, Err, IfOk, MatchResult}
use Rattle.bx_logic.specs.declared.op.Op.{Op}
use Rattle.bx_syntax.specs.declared.terminal.Terminal.{Terminal}
use Rattle.bx_syntax.specs.declared.terminal.Terminal.TheVariants.{Fixed}
use Rattle.bx_syntax.specs.declared.terminal.Mark.TheVariants.{Module as ModuleWord, EndModule, Open, Close, Comma, Semicolon}
use Rattle.bx_syntax.specs.declared.tree.Port.{Port}
use Rattle.bx_syntax.specs.declared.part.Kind.{Kind}
use Rattle.bx_syntax.specs.declared.part.Kind.TheVariants.{Declaration, Wire, Assign, Gate}
use Rattle.bx_syntax.specs.declared.tree.Expr.{Expr, Net}
use Rattle.bx_syntax.specs.Trees.{Tree, net, tree}
use Rattle.bx_syntax.specs.declared.stop.Stop.{Stop}
use Rattle.bx_syntax.specs.declared.stop.Stop.TheVariants.{Bad, Deep, NoMemory}
use Rattle.bx_syntax.specs.Gives.{Gives}
use Rattle.bx_syntax.specs.Parts.{PartTree, declaration, wire, assign, gate, copies, ModuleTree}
use Rattle.bx_syntax.specs.ReadsExpressions.{◌>>=◌, behind}
use Rattle.bx_syntax.specs.ReadsModules.{next_is, comma_next, comma_step, is_net, net_name, comma_behind_net, item_next, header_at, expression, name_and_expression, item_at, one_item, module_at}
use Rattle.bx_syntax.specs.Grammar.{Between, Is, AreMore, AreListed, IsExpr, IsWire, IsGate, IsPart, AreItems, IsHeader, IsModule}
use Rattle.bx_syntax.proofs.ReadsExpressions.{bind_ok, ok_is}
use Rattle.bx_syntax.proofs.Repeats.{Repeats}
use Rattle.bx_syntax.proofs.ReadsModules.{comma_and, comma_repeats, expr_shorter, expression_reads, items_again, mark_again, module_reads, name_again, not_comma, ports_again, ports_front}

header_again : (ps : List Port) (ts rest end : List Terminal) → IsHeader ps ts rest → Is (Fixed Semicolon) rest end → header_at ts ≡ Ok (ps, rest)
unfolding header_at
header_again ps ts rest end (inl (none, same)) e = rw (none, same, e) refl
header_again ps ts rest end (inr (a, b, opens, inl (none, same), closing)) e =
    let inner : Is (Fixed Close) a rest = same ∙ closing in
    rw (none, mark_again Open ts a opens, mark_again Close a rest inner) refl
header_again ps ts rest end (inr (a, b, opens, inr ports, closing)) e =
    rw (mark_again Open ts a opens, ports_front ps a b ports, ports_again ps a b ports (not_comma Close b rest refl closing), mark_again Close b rest closing) refl

-- Each module of the grammar in which nothing nests deeper is read.
pub module_again : (limit : ℕ) (m : ModuleTree) (ts : List Terminal) → IsModule limit m ts → module_at limit ts ≡ Ok (m, [])
unfolding module_at
module_again limit m ts h =
    rw (
      mark_again ModuleWord ts h.named h.begins,
      name_again m.name h.named h.headed h.name,
      header_again m.ports h.headed h.ended h.body h.header h.semicolon,
      mark_again Semicolon h.ended h.body h.semicolon,
      items_again limit tt m.items h.body h.last h.items (ap (item_next tt) h.ends),
      mark_again EndModule h.last [] h.ends,
    ) refl

-- What nests no deeper than a limit nests no deeper than a higher one.
abbrev Wider : {A : Type 0} → (A → Between) → (A → Between) → Type 0
Wider {A = A} IsX IsY = (x : A) (ts rest : List Terminal) → IsX x ts rest → IsY x ts rest

more_wider : {A : Type 0} (IsX IsY : A → Between) → Wider IsX IsY → Wider (AreMore IsX) (AreMore IsY)
more_wider IsX IsY f [] ts rest h = h
more_wider IsX IsY f (x ∷ xs) ts rest (a, b, e, is, more) = (a, b, e, f x a b is, more_wider IsX IsY f xs b rest more)

listed_wider : {A : Type 0} (IsX IsY : A → Between) → Wider IsX IsY → Wider (AreListed IsX) (AreListed IsY)
listed_wider IsX IsY f [] ts rest h = h
listed_wider IsX IsY f (x ∷ xs) ts rest (a, is, more) = (a, f x ts a is, more_wider IsX IsY f xs a rest more)

module _ (low high : ℕ) (le : low ≤ high) where
  expr_wider : Wider (IsExpr low) (IsExpr high)
  expr_wider t ts rest h = (h.0, omega (arith, h.1), h.2)

  wire_wider : (n : List ℕ) (e : Option Tree) (ts rest : List Terminal) → IsWire low n e ts rest → IsWire high n e ts rest
  wire_wider n None ts rest h = h
  wire_wider n (Some e) ts rest (a, b, name, equals, expr) = (a, b, name, equals, expr_wider e b rest expr)

  gate_wider : (op : Op) → Wider (IsGate low op) (IsGate high op)
  gate_wider op (gate o n es) ts rest (same, x, y, (a, b, c, d, p, q, r, s, t)) = (same, x, y, (a, b, c, d, p, q, r, listed_wider (IsExpr low) (IsExpr high) expr_wider es c d s, t))
  gate_wider op (copies o ns e) ts rest (same, x, (a, b, c, d, p, q, r, s, t)) = (same, x, (a, b, c, d, p, q, r, expr_wider e c d s, t))
  gate_wider op _ ts rest h = absurd h

  part_wider : (k : Kind) → Wider (IsPart low k) (IsPart high k)
  part_wider (Declaration d) (declaration e n) ts rest h = h
  part_wider Wire (wire n e) ts rest h = wire_wider n e ts rest h
  part_wider Assign (assign n e) ts rest h = wire_wider n (Some e) ts rest h
  part_wider (Gate op) p ts rest (a, l, g) = (a, l, gate_wider op p a rest g)
  part_wider _ _ ts rest h = absurd h

  items_wider : Wider (AreItems low) (AreItems high)
  items_wider [] ts rest h = h
  items_wider (i ∷ items) ts rest (a, (k, b, c, head, listed, e), more) =
      (a, (k, b, c, head, listed_wider (IsPart low k) (IsPart high k) (part_wider k) i b c listed, e), items_wider items a rest more)

  pub module_wider : (m : ModuleTree) (ts : List Terminal) → IsModule low m ts → IsModule high m ts
  module_wider m ts h = record {
    named = h.named;
    headed = h.headed;
    ended = h.ended;
    body = h.body;
    last = h.last;
    begins = h.begins;
    name = h.name;
    header = h.header;
    semicolon = h.semicolon;
    items = items_wider m.items h.body h.last h.items;
    ends = h.ends;
  }

-- A list of terminals has at most one tree.
pub module_once : (a b : ℕ) (m n : ModuleTree) (ts : List Terminal) → IsModule a m ts → IsModule b n ts → m ≡ n
module_once a b m n ts f g =
    let wide = module_again (a + b) m ts (module_wider a (a + b) (omega arith) m ts f) in
    let same = module_again (a + b) n ts (module_wider b (a + b) (omega arith) n ts g) in
    ap (λ (x : ModuleTree × List Terminal). x.0) (ok_is (sym wide ∙ same))

pub expressions_repeat : (limit : ℕ) → Repeats comma_next (comma_step (expression limit))
expressions_repeat limit = comma_repeats (IsExpr limit) (expression limit) (expression_reads limit) (expr_shorter limit)

-- A tree of the code that isn't a name isn't one to the grammar.
pub not_net : (e : Expr) → ((n : List ℕ) → e ≡ Net n → ⊥) → is_net (tree e) ≡ false
not_net (Net n) f = absurd (f n refl)
not_net _ f = refl

pub net_tree : (e : Expr) (n : List ℕ) → e ≡ Net n → tree e ≡ net n
net_tree e n h = ap tree h

pub names_stop : (t : Tree) (ts : List Terminal) → is_net t ≡ false → comma_behind_net t ts ≡ false
names_stop t ts e = rw e (by_test (next_is Comma ts))
  where
    by_test : (b : Bool) → b && false ≡ false
    by_test true = refl
    by_test false = refl

pub names_go : (t : Tree) (n : List ℕ) (ts : List Terminal) → t ≡ net n → next_is Comma ts ≡ true → comma_behind_net t ts ≡ true
names_go t n ts e h = rw e (rw h refl)

pub name_step : (limit : ℕ) (t e : Tree) (n : List ℕ) (ts rest : List Terminal) → t ≡ net n → comma_step (expression limit) tt ts ≡ Ok ((e, tt), rest) →
    name_and_expression limit t ts ≡ Ok ((n, e), rest)
name_step limit t e n ts rest same h =
    let r = bind_ok {o = behind Comma ts} h in
    let a = bind_ok {o = expression limit r.0} r.2 in
    rw (same, r.1, a.1) (ap (λ (w : (Tree × Unit {0}) × List Terminal). let v : (List ℕ × Tree) × List Terminal = ((n, w.0.0), w.1) in Ok v) (ok_is a.2))

pub name_step_fails : (limit : ℕ) (t : Tree) (ts : List Terminal) (w : Stop) → comma_step (expression limit) tt ts ≡ Err w → name_and_expression limit t ts ≡ Err w
name_step_fails limit t ts w h = by_rest (behind Comma ts) h
  where
    by_expression : (o : Result (Tree × List Terminal) Stop) → (o >>= λ (x : Tree × List Terminal). let v : (Tree × Unit {0}) × List Terminal = ((x.0, tt), x.1) in Ok v) ≡ Err w →
        (o >>= λ (x : Tree × List Terminal). let v : (List ℕ × Tree) × List Terminal = ((net_name t, x.0), x.1) in Ok v) ≡ Err w
    by_expression (Err e) h = cc
    by_expression (Ok x) h = absurd (cc)

    by_rest : (o : Result (List Terminal) Stop) → (o >>= λ r. expression limit r >>= λ (x : Tree × List Terminal). let v : (Tree × Unit {0}) × List Terminal = ((x.0, tt), x.1) in Ok v) ≡ Err w →
        (o >>= λ r. expression limit r >>= λ (x : Tree × List Terminal). let v : (List ℕ × Tree) × List Terminal = ((net_name t, x.0), x.1) in Ok v) ≡ Err w
    by_rest (Err e) h = cc
    by_rest (Ok r) h = by_expression (expression limit r) h

pub no_comma_names : (t : Tree) (ts : List Terminal) → next_is Comma ts ≡ false → comma_behind_net t ts ≡ false
no_comma_names t ts e = comma_and (is_net t) ts e

pub item_step : (limit : ℕ) (ps : List PartTree) (ts rest : List Terminal) → item_at limit ts ≡ Ok (ps, rest) → one_item limit tt ts ≡ Ok ((ps, tt), rest)
item_step limit ps ts rest e = rw e refl

pub item_step_fails : (limit : ℕ) (ts : List Terminal) (w : Stop) → item_at limit ts ≡ Err w → one_item limit tt ts ≡ Err w
item_step_fails limit ts w e = rw e refl

-- What the reader of a module answers is the tree of the terminals, and it answers it where there is one.
pub module_found : (r : Result ModuleTree Stop) (rest ts : List Terminal) → Gives (λ m. m) rest r (module_at 256 ts) → IfOk r (λ m. IsModule 256 m ts)
module_found (Ok m) rest ts h = module_reads 256 ts (m, rest) h
module_found (Err e) rest ts h = tt

pub module_only : (r : Result ModuleTree Stop) (rest ts : List Terminal) → Gives (λ m. m) rest r (module_at 256 ts) → (m : ModuleTree) → IsModule 256 m ts →
    MatchResult r (λ x. x ≡ m) (λ e. e ≡ NoMemory)
module_only (Ok x) rest ts h m is = ap (λ (y : ModuleTree × List Terminal). y.0) (ok_is (sym h ∙ module_again 256 m ts is))
module_only (Err NoMemory) rest ts h m is = refl
module_only (Err (Bad _ _)) rest ts h m is = let read = module_again 256 m ts is in absurd (cc)
module_only (Err (Deep _)) rest ts h m is = let read = module_again 256 m ts is in absurd (cc)
