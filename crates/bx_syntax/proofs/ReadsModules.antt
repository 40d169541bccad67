-- What reads a module reads each that the grammar has, and nothing else.
use Rattle.std.proofs.Common.{◌≡◌, ◌≢◌, ℕ, zero, suc, ◌<◌, ◌≤◌, Bool, true, false, ◌&&◌, cond, List, [], ◌∷◌, length, length-append, Option, Some, None, Result, Ok, Err, refl, sym, ap, subst, ◌∙◌, ◌⊎◌, inl, inr, ⊎_elim, arith}
use Rattle.std.proofs.lemmas.Bool.{and_from}
use Rattle.std.specs.Option.{is_some}
use Rattle.std.specs.Prelude.{IsSome, is_ok}
use Rattle.bx_logic.specs.declared.op.Op.{Op}
use Rattle.bx_logic.specs.declared.op.Op.TheVariants.{Buf, Not}
use Rattle.bx_syntax.specs.declared.terminal.Terminal.{Terminal}
use Rattle.bx_syntax.specs.declared.terminal.Terminal.TheVariants.{Fixed, GateWord, Name}
use Rattle.bx_syntax.specs.declared.terminal.Mark.{Mark}
use Rattle.bx_syntax.specs.declared.terminal.Mark.TheVariants.{Module as ModuleWord, EndModule, Input as InputWord, Output as OutputWord, Wire as WireWord, Assign as AssignWord, Open, Close, Comma, Semicolon, Equals}
use Rattle.bx_syntax.specs.declared.stop.Stop.{Stop}
use Rattle.bx_syntax.specs.declared.stop.Wanted.TheVariants.{Other}
use Rattle.bx_syntax.specs.declared.tree.Direction.{Direction}
use Rattle.bx_syntax.specs.declared.tree.Direction.TheVariants.{Input, Output}
use Rattle.bx_syntax.specs.declared.tree.Port.{Port}
use Rattle.bx_syntax.specs.declared.part.Kind.{Kind}
use Rattle.bx_syntax.specs.declared.part.Kind.TheVariants.{Declaration, Wire, Assign, Gate}
use Rattle.bx_syntax.specs.Trees.{Tree, net}
use Rattle.bx_syntax.specs.Parts.{PartTree, declaration, wire, assign, gate, copies, ModuleTree}
use Rattle.bx_syntax.specs.Expressions.{spelling}
use Rattle.bx_syntax.specs.ReadsExpressions.{Reader, ◌>>=◌, behind, expr_at}
use Rattle.bx_syntax.specs.Repeats.{repeat_within, repeated, ahead_of}
use Rattle.bx_syntax.specs.ReadsModules.{or_stop, next_is, name_at, past, past_name, comma_next, comma_step, listed_at, is_net, net_name, comma_behind_net, past_wire, kind_at, item_next, port_behind, direction_of, port_at, comma_port, port_next, ports_at, header_at, at_end, expression, wire_at, assign_at, many_at, name_and_expression, few_at, connections_at, driven_at, gate_at, part_at, item_at, one_item, module_at}
use Rattle.bx_syntax.specs.Grammar.{Between, Is, IsOptional, IsName, IsLabel, AreMore, AreListed, word, IsExpr, IsWire, IsGate, IsPart, IsHead, IsItem, AreItems, IsPlain, IsDirected, ArePortsBehind, ArePorts, IsHeader, IsModule}
use Rattle.bx_syntax.proofs.ReadsExpressions.{bind_ok, ok_is, behind_is, behind_mark, finds, again, Ends}
use Rattle.bx_syntax.proofs.Repeats.{Repeats, ahead_is, repeated_step, repeated_stops}

-- What a reader reads stands there.
abbrev Reads : {A : Type 0} → (A → Between) → Reader A → Type 0
Reads {A = A} IsX p = (ts : List Terminal) (x : A × List Terminal) → p ts ≡ Ok x → IsX x.0 ts x.1

pub expression_reads : (limit : ℕ) → Reads (IsExpr limit) (expression limit)
unfolding expression
expression_reads limit ts x e = let f = finds limit 3 ts x e in (f.level, f.nested, f.spelled)

name_reads : Reads IsName name_at
name_reads (Name n ∷ ts) x e = subst (λ (x : List ℕ × List Terminal). IsName x.0 (Name n ∷ ts) x.1) (ok_is e) refl
name_reads _ x e = absurd (cc)

past_mark : (s r : Mark) (ts : List Terminal) → Fixed r ∷ ts ≡ Fixed s ∷ ts ⊎ (next_is s (Fixed r ∷ ts) ≡ false)
past_mark s r ts = by_rest (behind s (Fixed r ∷ ts)) refl
  where
    tail_is : (a b : List Terminal) (m n : Terminal) → m ∷ a ≡ n ∷ b → m ∷ a ≡ n ∷ a
    tail_is a b m n e = cc

    by_rest : (o : Result (List Terminal) Stop) → behind s (Fixed r ∷ ts) ≡ o → (Fixed r ∷ ts ≡ Fixed s ∷ ts) ⊎ (is_ok o ≡ false)
    by_rest (Err w) e = inr refl
    by_rest (Ok rest) e = inl (tail_is ts rest (Fixed r) (Fixed s) (behind_is s (Fixed r ∷ ts) rest e))

past_is : (s : Mark) (ts : List Terminal) → IsOptional (Fixed s) ts (past s ts)
past_is s (Fixed r ∷ ts) =
    by_test (next_is s (Fixed r ∷ ts)) refl
  where
    by_test : (b : Bool) → next_is s (Fixed r ∷ ts) ≡ b → (Fixed r ∷ ts ≡ cond b ts (Fixed r ∷ ts)) ⊎ (Fixed r ∷ ts ≡ Fixed s ∷ cond b ts (Fixed r ∷ ts))
    by_test false e = inl refl
    by_test true e = ⊎_elim (λ h. inr h) (λ h. let never : true ≡ false = sym e ∙ h in absurd (cc)) (past_mark s r ts)
past_is s _ = inl refl

past_name_is : (ts : List Terminal) → IsLabel ts (past_name ts)
past_name_is (Name n ∷ ts) = inr (n, refl)
past_name_is _ = inl refl

pub there : {A : Type 0} (IsX : A → Between) (ts : List Terminal) {a : A} {rest : List Terminal} {x : A × List Terminal} →
    ◌≡◌ {A = Result (A × List Terminal) Stop} (Ok (a, rest)) (Ok x) → IsX a ts rest → IsX x.0 ts x.1
there {A = A} IsX ts e h = subst (λ (x : A × List Terminal). IsX x.0 ts x.1) (ok_is e) h

chosen : {A : Type 0} {b : Bool} {o q : Result A Stop} {x : A} → cond b o q ≡ Ok x → ((b ≡ true) × (o ≡ Ok x)) ⊎ ((b ≡ false) × (q ≡ Ok x))
chosen {b = true} e = inl (refl, e)
chosen {b = false} e = inr (refl, e)

wire_with : (limit : ℕ) → List ℕ → List Terminal → Result (PartTree × List Terminal) Stop
wire_with limit n ts = behind Equals ts >>= λ r. expression limit r >>= λ e. Ok (wire n (Some e.0), e.1)

wire_value : (limit : ℕ) (n : List ℕ) (ts m : List Terminal) (x : PartTree × List Terminal) → IsName n ts m → wire_with limit n m ≡ Ok x → IsPart limit Wire x.0 ts x.1
unfolding wire_with
wire_value limit n ts m x name e =
    let r = bind_ok {o = behind Equals m} e in
    let t = bind_ok {o = expression limit r.0} r.2 in
    there (IsPart limit Wire) ts t.2 (m, r.0, name, behind_is Equals m r.0 r.1, expression_reads limit r.0 t.0 t.1)

wire_reads : (limit : ℕ) → Reads (IsPart limit Wire) (wire_at limit)
unfolding wire_at wire_with
wire_reads limit ts x e =
    let n = bind_ok {o = name_at ts} e in
    ⊎_elim
    (λ yes. wire_value limit n.0.0 ts n.0.1 x (name_reads ts n.0 n.1) yes.1)
    (λ no. there (IsPart limit Wire) ts no.1 (name_reads ts n.0 n.1))
    (chosen {b = next_is Equals n.0.1} n.2)

assign_reads : (limit : ℕ) → Reads (IsPart limit Assign) (assign_at limit)
unfolding assign_at
assign_reads limit ts x e =
    let n = bind_ok {o = name_at ts} e in
    let r = bind_ok {o = behind Equals n.0.1} n.2 in
    let t = bind_ok {o = expression limit r.0} r.2 in
    there (IsPart limit Assign) ts t.2
    (n.0.1, r.0, name_reads ts n.0 n.1, behind_is Equals n.0.1 r.0 r.1, expression_reads limit r.0 t.0 t.1)

step_reads : {A : Type 0} (IsX : A → Between) (p : Reader A) → Reads IsX p → (s : Unit {0}) (ts : List Terminal) (x : (A × Unit {0}) × List Terminal) →
    comma_step p s ts ≡ Ok x → (c : List Terminal) × Is (Fixed Comma) ts c × IsX x.0.0 c x.1
step_reads IsX p f s ts x e =
    let r = bind_ok {o = behind Comma ts} e in
    let a = bind_ok {o = p r.0} r.2 in
    (r.0, behind_is Comma ts r.0 r.1, there (λ y. IsX y.0) r.0 a.2 (f r.0 a.0 a.1))

-- { ',' x }, where x is read so
more_read : {A : Type 0} (IsX : A → Between) (p : Reader A) → Reads IsX p →
    (n : ℕ) (s : Unit {0}) (ts : List Terminal) (x : (List A × Unit {0}) × List Terminal) →
    repeat_within comma_next (comma_step p) n s ts ≡ Ok x → AreMore IsX x.0.0 ts x.1
unfolding repeat_within
more_read IsX p f zero s ts x e = there (λ y. AreMore IsX y.0) ts e refl
more_read IsX p f (suc n) s ts x e =
    ⊎_elim
    (λ yes.
    let a = bind_ok {o = comma_step p s ts} yes.1 in
    let y = bind_ok {o = repeat_within comma_next (comma_step p) n a.0.0.1 a.0.1} a.2 in
    let one = step_reads IsX p f s ts a.0 a.1 in
    there (λ z. AreMore IsX z.0) ts y.2 (one.0, a.0.1, one.1, one.2, more_read IsX p f n a.0.0.1 a.0.1 y.0 y.1))
    (λ no. there (λ y. AreMore IsX y.0) ts no.1 refl)
    (chosen {b = comma_next s ts} e)

listed_reads : {A : Type 0} (IsX : A → Between) (p : Reader A) → Reads IsX p → Reads (AreListed IsX) (listed_at p)
unfolding repeated
listed_reads {A = A} IsX p f ts x e =
    let a = bind_ok {o = p ts} e in
    let all = bind_ok {o = ahead_of (a.0.0 ∷ []) (repeated comma_next (comma_step p) tt a.0.1)} a.2 in
    let y = ahead_is a.0.0 (repeated comma_next (comma_step p) tt a.0.1) all.0 all.1 in
    there (AreListed IsX) ts (ap (λ (w : (List A × Unit {0}) × List Terminal). let v : List A × List Terminal = (w.0.0, w.1) in Ok v) y.2 ∙ all.2)
    (a.0.1, f ts a.0 a.1, more_read IsX p f (length a.0.1) tt a.0.1 y.0 y.1)

many_reads : (limit : ℕ) (op : Op) (n : List ℕ) (ts : List Terminal) (x : PartTree × List Terminal) → many_at limit op n ts ≡ Ok x →
    (es : List Tree) × (x.0 ≡ gate op n es) × AreListed (IsExpr limit) es ts x.1
unfolding many_at
many_reads limit op n ts x e =
    let es = bind_ok {o = listed_at (expression limit) ts} e in (
      es.0.0,
      ap (λ (y : PartTree × List Terminal). y.0) (sym (ok_is es.2)),
      there (λ y. AreListed (IsExpr limit) es.0.0) ts es.2 (listed_reads (IsExpr limit) (expression limit) (expression_reads limit) ts es.0 es.1),
    )

-- the names that were read as expressions behind one, and the expression behind the last of them
abbrev AreNames : (limit : ℕ) → Tree → List (List ℕ) → Tree → Between
AreNames limit t [] u ts rest = (t ≡ u) × (ts ≡ rest)
AreNames limit t (n ∷ ns) u ts rest =
    (v : Tree) × (c : List Terminal) × (d : List Terminal) × (t ≡ net n) × Is (Fixed Comma) ts c × IsExpr limit v c d × AreNames limit v ns u d rest

net_is : (t : Tree) → is_net t ≡ true → t ≡ net (net_name t)
net_is (net n) e = refl
net_is _ e = absurd (cc)

and_second : (a b : Bool) → a && b ≡ true → b ≡ true
and_second true b e = e
and_second false b e = absurd (cc)

name_step_reads : (limit : ℕ) (t : Tree) (ts : List Terminal) (x : (List ℕ × Tree) × List Terminal) → name_and_expression limit t ts ≡ Ok x →
    (c : List Terminal) × (x.0.0 ≡ net_name t) × Is (Fixed Comma) ts c × IsExpr limit x.0.1 c x.1
name_step_reads limit t ts x e =
    let r = bind_ok {o = behind Comma ts} e in
    let a = bind_ok {o = expression limit r.0} r.2 in (
      r.0,
      ap (λ (y : (List ℕ × Tree) × List Terminal). y.0.0) (sym (ok_is a.2)),
      behind_is Comma ts r.0 r.1,
      there (λ y. IsExpr limit y.1) r.0 a.2 (expression_reads limit r.0 a.0 a.1),
    )

names_read : (limit : ℕ) (n : ℕ) (t : Tree) (ts : List Terminal) (x : (List (List ℕ) × Tree) × List Terminal) →
    repeat_within comma_behind_net (name_and_expression limit) n t ts ≡ Ok x → AreNames limit t x.0.0 x.0.1 ts x.1
unfolding repeat_within
names_read limit zero t ts x e = there (λ y. AreNames limit t y.0 y.1) ts e (refl, refl)
names_read limit (suc n) t ts x e =
    ⊎_elim
    (λ yes.
    let a = bind_ok {o = name_and_expression limit t ts} yes.1 in
    let y = bind_ok {o = repeat_within comma_behind_net (name_and_expression limit) n a.0.0.1 a.0.1} a.2 in
    let one = name_step_reads limit t ts a.0 a.1 in
    let is = net_is t (and_second (next_is Comma ts) (is_net t) yes.0) in
    there (λ z. AreNames limit t z.0 z.1) ts y.2
    (a.0.0.1, one.0, a.0.1, is ∙ ap net (sym one.1), one.2, one.3, names_read limit n a.0.0.1 a.0.1 y.0 y.1))
    (λ no. there (λ y. AreNames limit t y.0 y.1) ts no.1 (refl, refl))
    (chosen {b = comma_behind_net t ts} e)

names_listed : (limit : ℕ) (t : Tree) (ns : List (List ℕ)) (u : Tree) (b c d rest : List Terminal) → Is (Fixed Comma) b c → IsExpr limit t c d → AreNames limit t ns u d rest →
    (m : List Terminal) × (k : List Terminal) × AreMore IsName ns b m × Is (Fixed Comma) m k × IsExpr limit u k rest
names_listed limit t [] u b c d rest h f g = (b, c, refl, h, subst (λ v. IsExpr limit v c rest) g.0 (subst (λ r. IsExpr limit t c r) g.1 f))
names_listed limit t (n ∷ ns) u b c d rest h f (v, e, i, is, comma, one, more) =
    let last = names_listed limit v ns u d e i rest comma one more in
    (last.0, last.1, (c, d, h, (subst (λ w. IsExpr limit w c d) is f).2, last.2), last.3, last.4)

few_reads : (limit : ℕ) (op : Op) (n : List ℕ) (a b c : List Terminal) (x : PartTree × List Terminal) → IsName n a b → Is (Fixed Comma) b c → few_at limit op n c ≡ Ok x →
    (ns : List (List ℕ)) × (t : Tree) × (m : List Terminal) × (k : List Terminal) × (x.0 ≡ copies op ns t) × AreListed IsName ns a m × Is (Fixed Comma) m k × IsExpr limit t k x.1
unfolding few_at repeated
few_reads limit op n a b c x name comma e =
    let t = bind_ok {o = expression limit c} e in
    let all = bind_ok {o = ahead_of (n ∷ []) (repeated comma_behind_net (name_and_expression limit) t.0.0 t.0.1)} t.2 in
    let y = ahead_is n (repeated comma_behind_net (name_and_expression limit) t.0.0 t.0.1) all.0 all.1 in
    let same : Ok (copies op (n ∷ y.0.0.0) y.0.0.1, y.0.1) ≡ Ok x =
    ap (λ (w : (List (List ℕ) × Tree) × List Terminal). let v : PartTree × List Terminal = (copies op w.0.0 w.0.1, w.1) in Ok v) y.2 ∙ all.2 in
    let found = names_listed limit t.0.0 y.0.0.0 y.0.0.1 b c t.0.1 y.0.1 comma (expression_reads limit c t.0 t.1) (names_read limit (length t.0.1) t.0.0 t.0.1 y.0 y.1) in (
      n ∷ y.0.0.0,
      y.0.0.1,
      found.0,
      found.1,
      ap (λ (z : PartTree × List Terminal). z.0) (sym (ok_is same)),
      (b, name, found.2),
      found.3,
      there (λ z. IsExpr limit y.0.0.1) found.1 same found.4,
    )

few_gate : (limit : ℕ) (op : Op) (n : List ℕ) (l a b c rest : List Terminal) (x : PartTree × List Terminal) → ((op ≡ Buf) ⊎ (op ≡ Not)) →
    Is (Fixed Open) l a → IsName n a b → Is (Fixed Comma) b c → few_at limit op n c ≡ Ok x → Is (Fixed Close) x.1 rest → IsGate limit op x.0 l rest
few_gate limit op n l a b c rest x which opens name comma e close =
    let f = few_reads limit op n a b c x name comma e in
    subst (λ (p : PartTree). IsGate limit op p l rest) (sym f.4) (refl, which, (a, f.2, f.3, x.1, opens, f.5, f.6, f.7, close))

many_gate : (limit : ℕ) (op : Op) (n : List ℕ) (l a b c rest : List Terminal) (x : PartTree × List Terminal) → op ≢ Buf → op ≢ Not →
    Is (Fixed Open) l a → IsName n a b → Is (Fixed Comma) b c → many_at limit op n c ≡ Ok x → Is (Fixed Close) x.1 rest → IsGate limit op x.0 l rest
many_gate limit op n l a b c rest x f g opens name comma e close =
    let m = many_reads limit op n c x e in
    subst (λ (p : PartTree). IsGate limit op p l rest) (sym m.1) (refl, f, g, (a, b, c, x.1, opens, name, comma, m.2, close))

connections_read : (limit : ℕ) (op : Op) (n : List ℕ) (l a b c rest : List Terminal) (x : PartTree × List Terminal) →
    Is (Fixed Open) l a → IsName n a b → Is (Fixed Comma) b c → connections_at limit op n c ≡ Ok x → Is (Fixed Close) x.1 rest → IsGate limit op x.0 l rest
connections_read limit Buf n l a b c rest x = few_gate limit Buf n l a b c rest x (inl refl)
connections_read limit Not n l a b c rest x = few_gate limit Not n l a b c rest x (inr refl)
connections_read limit op n l a b c rest x = many_gate limit op n l a b c rest x (λ e. cc) (λ e. cc)

gate_reads : (limit : ℕ) (op : Op) → Reads (IsPart limit (Gate op)) (gate_at limit op)
unfolding gate_at
gate_reads limit op ts x e =
    let g = bind_ok {o = driven_at ts} e in
    let a = bind_ok {o = behind Open (past_name ts)} g.1 in
    let n = bind_ok {o = name_at a.0} a.2 in
    let b = bind_ok {o = behind Comma n.0.1} n.2 in
    let c = bind_ok {o = connections_at limit op g.0.0 g.0.1} g.2 in
    let d = bind_ok {o = behind Close c.0.1} c.2 in
    let same = ok_is b.2 in
    there (IsPart limit (Gate op)) ts d.2 (
      past_name ts,
      past_name_is ts,
      connections_read limit op g.0.0 (past_name ts) a.0 n.0.1 g.0.1 d.0 c.0 (behind_is Open (past_name ts) a.0 a.1)
          (subst (λ (y : List ℕ × List Terminal). IsName y.0 a.0 n.0.1) same (name_reads a.0 n.0 n.1))
          (subst (λ (y : List ℕ × List Terminal). Is (Fixed Comma) n.0.1 y.1) same (behind_is Comma n.0.1 b.0 b.1)) c.1 (behind_is Close c.0.1 d.0 d.1),
    )

part_reads : (limit : ℕ) (k : Kind) → Reads (IsPart limit k) (part_at limit k)
part_reads limit (Declaration d) ts x e =
    let n = bind_ok {o = name_at ts} e in
    there (IsPart limit (Declaration d)) ts n.2 (refl, name_reads ts n.0 n.1)
part_reads limit Wire ts x e = wire_reads limit ts x e
part_reads limit Assign ts x e = assign_reads limit ts x e
part_reads limit (Gate op) ts x e = gate_reads limit op ts x e

past_wire_is : (d : Direction) (ts a : List Terminal) → Is (word d) ts a → IsHead (Declaration d) ts (past_wire (Declaration d) a)
past_wire_is d ts a h = (a, h, past_is WireWord a)

kind_reads : (ts : List Terminal) (x : Kind × List Terminal) → kind_at ts ≡ Ok x → IsHead x.0 ts x.1
kind_reads (GateWord op ∷ ts) x e = there IsHead (GateWord op ∷ ts) e refl
kind_reads (Fixed InputWord ∷ ts) x e = there IsHead (Fixed InputWord ∷ ts) e (past_wire_is Input (Fixed InputWord ∷ ts) ts refl)
kind_reads (Fixed OutputWord ∷ ts) x e = there IsHead (Fixed OutputWord ∷ ts) e (past_wire_is Output (Fixed OutputWord ∷ ts) ts refl)
kind_reads (Fixed WireWord ∷ ts) x e = there IsHead (Fixed WireWord ∷ ts) e refl
kind_reads (Fixed AssignWord ∷ ts) x e = there IsHead (Fixed AssignWord ∷ ts) e refl
kind_reads _ x e = absurd (cc)

item_reads : (limit : ℕ) → Reads (IsItem limit) (item_at limit)
unfolding item_at
item_reads limit ts x e =
    let k = bind_ok {o = kind_at ts} e in
    let ps = bind_ok {o = listed_at (part_at limit k.0.0) k.0.1} k.2 in
    let r = bind_ok {o = behind Semicolon ps.0.1} ps.2 in
    there (IsItem limit) ts r.2
    (k.0.0, k.0.1, ps.0.1, kind_reads ts k.0 k.1, listed_reads (IsPart limit k.0.0) (part_at limit k.0.0) (part_reads limit k.0.0) k.0.1 ps.0 ps.1, behind_is Semicolon ps.0.1 r.0 r.1)

one_item_reads : (limit : ℕ) (s : Unit {0}) (ts : List Terminal) (x : (List PartTree × Unit {0}) × List Terminal) → one_item limit s ts ≡ Ok x → IsItem limit x.0.0 ts x.1
one_item_reads limit s ts x e =
    let i = bind_ok {o = item_at limit ts} e in
    there (λ y. IsItem limit y.0) ts i.2 (item_reads limit ts i.0 i.1)

items_read : (limit : ℕ) (n : ℕ) (s : Unit {0}) (ts : List Terminal) (x : (List (List PartTree) × Unit {0}) × List Terminal) →
    repeat_within item_next (one_item limit) n s ts ≡ Ok x → AreItems limit x.0.0 ts x.1
unfolding repeat_within
items_read limit zero s ts x e = there (λ y. AreItems limit y.0) ts e refl
items_read limit (suc n) s ts x e =
    ⊎_elim
    (λ yes.
    let a = bind_ok {o = one_item limit s ts} yes.1 in
    let y = bind_ok {o = repeat_within item_next (one_item limit) n a.0.0.1 a.0.1} a.2 in
    there (λ z. AreItems limit z.0) ts y.2 (a.0.1, one_item_reads limit s ts a.0 a.1, items_read limit n a.0.0.1 a.0.1 y.0 y.1))
    (λ no. there (λ y. AreItems limit y.0) ts no.1 refl)
    (chosen {b = item_next s ts} e)

directed_reads : (d : Direction) (ts a : List Terminal) (x : Port × List Terminal) → Is (word d) ts a → port_behind d a ≡ Ok x → IsDirected x.0 ts x.1
directed_reads d ts a x h e =
    let n = bind_ok {o = name_at (past WireWord a)} e in
    there IsDirected ts n.2 (d, past WireWord a, refl, (a, h, past_is WireWord a), name_reads (past WireWord a) n.0 n.1)

-- a port is a name alone, or one with its direction where such a one is allowed
abbrev IsPort : Bool → Option Direction → Port → Between
IsPort words d p ts rest = IsPlain d p ts rest ⊎ ((words ≡ true) × IsDirected p ts rest)

mark_port_reads : (s : Mark) (ts : List Terminal) (x : Port × List Terminal) → (or_stop Other (Fixed s ∷ ts) (direction_of s) >>= λ e. port_behind e ts) ≡ Ok x → IsDirected x.0 (Fixed s ∷ ts) x.1
mark_port_reads InputWord ts x e = directed_reads Input (Fixed InputWord ∷ ts) ts x refl e
mark_port_reads OutputWord ts x e = directed_reads Output (Fixed OutputWord ∷ ts) ts x refl e
mark_port_reads _ ts x e = absurd (cc)

port_reads : (words : Bool) (d : Option Direction) → Reads (IsPort words d) (port_at words d)
port_reads words d (Name n ∷ ts) x e = there (IsPort words d) (Name n ∷ ts) e (inl (refl, refl))
port_reads true d (Fixed s ∷ ts) x e = inr (refl, mark_port_reads s ts x e)
port_reads false d (Fixed s ∷ ts) x e = absurd (cc)
port_reads words d _ x e = absurd (cc)

some_from : {A : Type 0} (o : Option A) → is_some o ≡ true → IsSome o
some_from (Some x) e = refl
some_from None e = absurd (cc)

comma_port_reads : (d : Option Direction) (ts : List Terminal) (x : (Port × Option Direction) × List Terminal) → comma_port d ts ≡ Ok x →
    (c : List Terminal) × Is (Fixed Comma) ts c × IsPort (is_some d) d x.0.0 c x.1 × (x.0.1 ≡ x.0.0.direction)
comma_port_reads d ts x e =
    let r = bind_ok {o = behind Comma ts} e in
    let p = bind_ok {o = port_at (is_some d) d r.0} r.2 in (
      r.0,
      behind_is Comma ts r.0 r.1,
      there (λ y. IsPort (is_some d) d y.0) r.0 p.2 (port_reads (is_some d) d r.0 p.0 p.1),
      subst (λ (y : (Port × Option Direction) × List Terminal). y.0.1 ≡ y.0.0.direction) (ok_is p.2) refl,
    )

ports_behind_read : (n : ℕ) (d : Option Direction) (ts : List Terminal) (x : (List Port × Option Direction) × List Terminal) →
    repeat_within port_next comma_port n d ts ≡ Ok x → ArePortsBehind d x.0.0 ts x.1
unfolding repeat_within
ports_behind_read zero d ts x e = there (λ y. ArePortsBehind d y.0) ts e refl
ports_behind_read (suc n) d ts x e =
    ⊎_elim
    (λ yes.
    let a = bind_ok {o = comma_port d ts} yes.1 in
    let y = bind_ok {o = repeat_within port_next comma_port n a.0.0.1 a.0.1} a.2 in
    let one = comma_port_reads d ts a.0 a.1 in
    there (λ z. ArePortsBehind d z.0) ts y.2 (
      one.0,
      a.0.1,
      one.1,
      ⊎_elim (λ p. inl p) (λ p. inr (some_from d p.0, p.1)) one.2,
      subst (λ (f : Option Direction). ArePortsBehind f y.0.0.0 a.0.1 y.0.1) one.3 (ports_behind_read n a.0.0.1 a.0.1 y.0 y.1),
    ))
    (λ no. there (λ y. ArePortsBehind d y.0) ts no.1 refl)
    (chosen {b = port_next d ts} e)

ports_read : Reads ArePorts ports_at
unfolding ports_at repeated
ports_read ts x e =
    let p = bind_ok {o = port_at true None ts} e in
    let all = bind_ok {o = ahead_of (p.0.0 ∷ []) (repeated port_next comma_port p.0.0.direction p.0.1)} p.2 in
    let ps = ahead_is p.0.0 (repeated port_next comma_port p.0.0.direction p.0.1) all.0 all.1 in
    there ArePorts ts (ap (λ (w : (List Port × Option Direction) × List Terminal). let v : List Port × List Terminal = (w.0.0, w.1) in Ok v) ps.2 ∙ all.2)
    (p.0.1, ⊎_elim (λ h. inl h) (λ h. inr h.1) (port_reads true None ts p.0 p.1), ports_behind_read (length p.0.1) p.0.0.direction p.0.1 ps.0 ps.1)

inner_header : List Terminal → Result (List Port × List Terminal) Stop
inner_header a =
    cond (next_is Close a) (behind Close a >>= λ r. Ok ([], r)) (ports_at a >>= λ ps. behind Close ps.1 >>= λ r. Ok (ps.0, r))

inner_header_reads : (ts a : List Terminal) (x : List Port × List Terminal) → Is (Fixed Open) ts a → inner_header a ≡ Ok x → IsHeader x.0 ts x.1
unfolding inner_header
inner_header_reads ts a x h e =
    ⊎_elim
    (λ yes. let r = bind_ok {o = behind Close a} yes.1 in there IsHeader ts r.2 (inr (a, a, h, inl (refl, refl), behind_is Close a r.0 r.1)))
    (λ no.
    let ps = bind_ok {o = ports_at a} no.1 in
    let r = bind_ok {o = behind Close ps.0.1} ps.2 in
    there IsHeader ts r.2 (inr (a, ps.0.1, h, inr (ports_read a ps.0 ps.1), behind_is Close ps.0.1 r.0 r.1)))
    (chosen {b = next_is Close a} e)

header_reads : Reads IsHeader header_at
unfolding header_at inner_header
header_reads ts x e =
    ⊎_elim
    (λ yes. let a = bind_ok {o = behind Open ts} yes.1 in inner_header_reads ts a.0 x (behind_is Open ts a.0 a.1) a.2)
    (λ no. there IsHeader ts no.1 (inl (refl, refl)))
    (chosen {b = next_is Open ts} e)

end_is : (ts rest : List Terminal) → at_end ts ≡ Ok rest → ts ≡ []
end_is [] rest e = refl
end_is (t ∷ ts) rest e = absurd (cc)

-- What is read is a module of the grammar, from the first terminal to the last.
pub module_reads : (limit : ℕ) (ts : List Terminal) (x : ModuleTree × List Terminal) → module_at limit ts ≡ Ok x → IsModule limit x.0 ts
unfolding module_at repeated
module_reads limit ts x e =
    let a = bind_ok {o = behind ModuleWord ts} e in
    let n = bind_ok {o = name_at a.0} a.2 in
    let h = bind_ok {o = header_at n.0.1} n.2 in
    let b = bind_ok {o = behind Semicolon h.0.1} h.2 in
    let s = bind_ok {o = repeated item_next (one_item limit) tt b.0} b.2 in
    let c = bind_ok {o = behind EndModule s.0.1} s.2 in
    let d = bind_ok {o = at_end c.0} c.2 in
    there (λ m ts rest. IsModule limit m ts) ts d.2
    (record {
      named = a.0;
      headed = n.0.1;
      ended = h.0.1;
      body = b.0;
      last = s.0.1;
      begins = behind_is ModuleWord ts a.0 a.1;
      name = name_reads a.0 n.0 n.1;
      header = header_reads n.0.1 h.0 h.1;
      semicolon = behind_is Semicolon h.0.1 b.0 b.1;
      items = items_read limit (length b.0) tt b.0 s.0 s.1;
      ends = behind_is EndModule s.0.1 c.0 c.1 ∙ ap (λ l. Fixed EndModule ∷ l) (end_is c.0 d.0 d.1);
    })

-- What stands behind an expression, a part of an item or a port: a comma, a semicolon or a `)`.
data Closes : List Terminal → Type 0 where
  comma : {ts : List Terminal} → Closes (Fixed Comma ∷ ts)
  semicolon : {ts : List Terminal} → Closes (Fixed Semicolon ∷ ts)
  close : {ts : List Terminal} → Closes (Fixed Close ∷ ts)

closes_ends : {ts : List Terminal} → Closes ts → Ends 3 ts
closes_ends comma = record { none = λ j lt. refl }
closes_ends semicolon = record { none = λ j lt. refl }
closes_ends close = record { none = λ j lt. refl }

no_equals : {ts : List Terminal} → Closes ts → next_is Equals ts ≡ false
no_equals comma = refl
no_equals semicolon = refl
no_equals close = refl

pub is_shorter : (t : Terminal) (ts rest : List Terminal) → Is t ts rest → length rest < length ts
is_shorter t ts rest e = omega (arith, ap length e)

pub expr_shorter : (limit : ℕ) (t : Tree) (ts rest : List Terminal) → IsExpr limit t ts rest → length rest ≤ length ts
expr_shorter limit t ts rest f = omega (arith, ap length f.2, length-append (spelling t) rest)

abbrev Shorter : {A : Type 0} → (A → Between) → Type 0
Shorter {A = A} IsX = (x : A) (ts rest : List Terminal) → IsX x ts rest → length rest ≤ length ts

more_shorter : {A : Type 0} (IsX : A → Between) → Shorter IsX → (xs : List A) (ts rest : List Terminal) → AreMore IsX xs ts rest → length rest ≤ length ts
more_shorter IsX f [] ts rest e = omega (arith, ap length e)
more_shorter IsX f (x ∷ xs) ts rest (a, b, c, is, more) = omega (arith, is_shorter (Fixed Comma) ts a c, f x a b is, more_shorter IsX f xs b rest more)

listed_shorter : {A : Type 0} (IsX : A → Between) → Shorter IsX → (xs : List A) (ts rest : List Terminal) → AreListed IsX xs ts rest → length rest ≤ length ts
listed_shorter IsX f [] ts rest e = absurd e
listed_shorter IsX f (x ∷ xs) ts rest (a, is, more) = omega (arith, f x ts a is, more_shorter IsX f xs a rest more)

name_shorter : Shorter IsName
name_shorter n ts rest e = omega (arith, is_shorter (Name n) ts rest e)

gate_shorter : (limit : ℕ) (op : Op) → Shorter (IsGate limit op)
gate_shorter limit op (gate o n es) ts rest (same, x, y, (a, b, c, d, p, q, r, s, t)) =
    omega (arith, is_shorter (Fixed Open) ts a p, is_shorter (Name n) a b q, is_shorter (Fixed Comma) b c r, listed_shorter (IsExpr limit) (expr_shorter limit) es c d s, is_shorter (Fixed Close) d rest t)
gate_shorter limit op (copies o ns e) ts rest (same, x, (a, b, c, d, p, q, r, s, t)) =
    omega (arith, is_shorter (Fixed Open) ts a p, listed_shorter IsName name_shorter ns a b q, is_shorter (Fixed Comma) b c r, expr_shorter limit e c d s, is_shorter (Fixed Close) d rest t)
gate_shorter limit op _ ts rest h = absurd h

pub label_shorter : (ts rest : List Terminal) → IsLabel ts rest → length rest ≤ length ts
label_shorter ts rest (inl e) = omega (arith, ap length e)
label_shorter ts rest (inr (n, e)) = omega (arith, ap length e)

wire_shorter : (limit : ℕ) (n : List ℕ) (e : Option Tree) (ts rest : List Terminal) → IsWire limit n e ts rest → length rest ≤ length ts
wire_shorter limit n None ts rest h = omega (arith, is_shorter (Name n) ts rest h)
wire_shorter limit n (Some e) ts rest (a, b, name, equals, expr) = omega (arith, is_shorter (Name n) ts a name, is_shorter (Fixed Equals) a b equals, expr_shorter limit e b rest expr)

part_shorter : (limit : ℕ) (k : Kind) → Shorter (IsPart limit k)
part_shorter limit (Declaration d) (declaration e n) ts rest h = omega (arith, is_shorter (Name n) ts rest h.1)
part_shorter limit Wire (wire n e) ts rest h = wire_shorter limit n e ts rest h
part_shorter limit Assign (assign n e) ts rest h = wire_shorter limit n (Some e) ts rest h
part_shorter limit (Gate op) p ts rest (a, l, g) = omega (arith, label_shorter ts a l, gate_shorter limit op p a rest g)
part_shorter limit _ _ ts rest h = absurd h

pub mark_again : (s : Mark) (ts rest : List Terminal) → Is (Fixed s) ts rest → behind s ts ≡ Ok rest
mark_again s ts rest e = ap (behind s) e ∙ behind_mark s rest

next_again : (s : Mark) (ts rest : List Terminal) → Is (Fixed s) ts rest → next_is s ts ≡ true
next_again s ts rest e = ap is_ok (mark_again s ts rest e)

pub name_again : (n : List ℕ) (ts rest : List Terminal) → IsName n ts rest → name_at ts ≡ Ok (n, rest)
name_again n ts rest e = ap name_at e

-- What stands there is read, where something that closes it stands behind it.
abbrev Whole : {A : Type 0} → (A → Between) → Reader A → Type 0
Whole {A = A} IsX p = (x : A) (ts rest : List Terminal) → IsX x ts rest → Closes rest → p ts ≡ Ok (x, rest)

expression_again : (limit : ℕ) → Whole (IsExpr limit) (expression limit)
unfolding expression
expression_again limit t ts rest f c = ap (expr_at limit) f.2 ∙ again t limit 3 rest f.0 f.1 (closes_ends c)

more_closes : {A : Type 0} (IsX : A → Between) (xs : List A) (ts rest : List Terminal) → AreMore IsX xs ts rest → Closes rest → Closes ts
more_closes IsX [] ts rest e c = subst Closes (sym e) c
more_closes IsX (x ∷ xs) ts rest (a, b, e, is, more) c = subst Closes (sym e) comma

step_again : {A : Type 0} (IsX : A → Between) (p : Reader A) → Whole IsX p → (s : Unit {0}) (x : A) (ts c rest : List Terminal) → Is (Fixed Comma) ts c → IsX x c rest → Closes rest →
    comma_step p s ts ≡ Ok ((x, s), rest)
step_again IsX p f s x ts c rest e is d = rw (mark_again Comma ts c e, f x c rest is d) refl

pub comma_repeats : {A : Type 0} (IsX : A → Between) (p : Reader A) → Reads IsX p → Shorter IsX → Repeats comma_next (comma_step p)
comma_repeats IsX p f g = record {
  less = λ s ts x e.
      let one = step_reads IsX p f s ts x e in
      omega (arith, is_shorter (Fixed Comma) ts one.0 one.1, g x.0.0 one.0 x.1 one.2);
  stops = λ s. refl;
}

more_again : {A : Type 0} (IsX : A → Between) (p : Reader A) → Whole IsX p → Repeats comma_next (comma_step p) → (xs : List A) (s : Unit {0}) (ts rest : List Terminal) → AreMore IsX xs ts rest → Closes rest → next_is Comma rest ≡ false →
    repeated comma_next (comma_step p) s ts ≡ Ok ((xs, s), rest)
more_again IsX p f h [] s ts rest e c n =
    ap (repeated comma_next (comma_step p) s) e ∙ repeated_stops comma_next (comma_step p) s rest n
more_again IsX p f h (x ∷ xs) s ts rest (a, b, e, is, more) c n =
    repeated_step comma_next (comma_step p) h s s x ts b (next_again Comma ts a e) (step_again IsX p f s x ts a b e is (more_closes IsX xs b rest more c))
    ∙ ap (ahead_of (x ∷ [])) (more_again IsX p f h xs s b rest more c n)

listed_again : {A : Type 0} (IsX : A → Between) (p : Reader A) → Whole IsX p → Repeats comma_next (comma_step p) → (xs : List A) (ts rest : List Terminal) → AreListed IsX xs ts rest → Closes rest → next_is Comma rest ≡ false →
    listed_at p ts ≡ Ok (xs, rest)
listed_again IsX p f h [] ts rest e c n = absurd e
listed_again IsX p f h (x ∷ xs) ts rest (a, is, more) c n =
    rw (f x ts a is (more_closes IsX xs a rest more c), more_again IsX p f h xs tt a rest more c n) refl

closes_by : (s : Mark) (ts rest : List Terminal) → Closes (Fixed s ∷ rest) → Is (Fixed s) ts rest → Closes ts
closes_by s ts rest c e = subst Closes (sym e) c

pub not_comma : (s : Mark) (ts rest : List Terminal) → next_is Comma (Fixed s ∷ rest) ≡ false → Is (Fixed s) ts rest → next_is Comma ts ≡ false
not_comma s ts rest c e = ap (next_is Comma) e ∙ c

wire_again : (limit : ℕ) (n : List ℕ) (e : Option Tree) (ts rest : List Terminal) → IsWire limit n e ts rest → Closes rest → wire_at limit ts ≡ Ok (wire n e, rest)
unfolding wire_at
wire_again limit n None ts rest h c = rw (name_again n ts rest h, no_equals c) refl
wire_again limit n (Some e) ts rest (a, b, name, equals, expr) c =
    rw (name_again n ts a name, mark_again Equals a b equals, expression_again limit e b rest expr c) refl

assign_again : (limit : ℕ) (n : List ℕ) (e : Tree) (ts rest : List Terminal) → IsWire limit n (Some e) ts rest → Closes rest → assign_at limit ts ≡ Ok (assign n e, rest)
unfolding assign_at
assign_again limit n e ts rest (a, b, name, equals, expr) c =
    rw (name_again n ts a name, mark_again Equals a b equals, expression_again limit e b rest expr c) refl

many_again : (limit : ℕ) (op : Op) (n : List ℕ) (es : List Tree) (ts d rest : List Terminal) → AreListed (IsExpr limit) es ts d → Is (Fixed Close) d rest → many_at limit op n ts ≡ Ok (gate op n es, d)
unfolding many_at
many_again limit op n es ts d rest h e =
    rw (listed_again (IsExpr limit) (expression limit) (expression_again limit) (comma_repeats (IsExpr limit) (expression limit) (expression_reads limit) (expr_shorter limit)) es ts d h
    (closes_by Close d rest close e) (not_comma Close d rest refl e)) refl

-- Names behind each other begin as an expression that is the first of them.
names_from : (limit : ℕ) (ns : List (List ℕ)) (e : Tree) (m b c d : List Terminal) → AreMore IsName ns m b → Is (Fixed Comma) b c → IsExpr limit e c d →
    (t : Tree) × (i : List Terminal) × (k : List Terminal) × Is (Fixed Comma) m i × IsExpr limit t i k × AreNames limit t ns e k d
names_from limit [] e m b c d same h f = (e, c, d, same ∙ h, f, (refl, refl))
names_from limit (n ∷ ns) e m b c d (a, q, h, name, more) g f =
    let r = names_from limit ns e q b c d more g f in
    (net n, a, q, h, (tt, omega arith, name), (r.0, r.1, r.2, refl, r.3, r.4, r.5))

names_close : (limit : ℕ) (t : Tree) (ns : List (List ℕ)) (u : Tree) (ts rest : List Terminal) → AreNames limit t ns u ts rest → Closes rest → Closes ts
names_close limit t [] u ts rest h c = subst Closes (sym h.1) c
names_close limit t (n ∷ ns) u ts rest (v, a, b, is, e, f, g) c = subst Closes (sym e) comma

pub names_repeat : (limit : ℕ) → Repeats comma_behind_net (name_and_expression limit)
names_repeat limit = record {
  less = λ s ts x e.
      let one = name_step_reads limit s ts x e in
      omega (arith, is_shorter (Fixed Comma) ts one.0 one.2, expr_shorter limit x.0.1 one.0 x.1 one.3);
  stops = λ s. refl;
}

name_step_again : (limit : ℕ) (n : List ℕ) (v : Tree) (ts c d : List Terminal) → Is (Fixed Comma) ts c → IsExpr limit v c d → Closes d → name_and_expression limit (net n) ts ≡ Ok ((n, v), d)
name_step_again limit n v ts c d e f g = rw (mark_again Comma ts c e, expression_again limit v c d f g) refl

pub comma_and : (b : Bool) (ts : List Terminal) → next_is Comma ts ≡ false → next_is Comma ts && b ≡ false
comma_and b ts e = rw e refl

names_again : (limit : ℕ) (t : Tree) (ns : List (List ℕ)) (u : Tree) (ts rest : List Terminal) → AreNames limit t ns u ts rest → Closes rest → next_is Comma rest ≡ false →
    repeated comma_behind_net (name_and_expression limit) t ts ≡ Ok ((ns, u), rest)
names_again limit t [] u ts rest (same, e) c n =
    rw (same, e) (repeated_stops comma_behind_net (name_and_expression limit) u rest (comma_and (is_net u) rest n))
names_again limit t (n ∷ ns) u ts rest (v, a, b, is, e, f, g) c k =
    rw is (repeated_step comma_behind_net (name_and_expression limit) (names_repeat limit) (net n) v n ts b (and_from (next_is Comma ts) true (next_again Comma ts a e) refl)
    (name_step_again limit n v ts a b e f (names_close limit v ns u b rest g c))
    ∙ ap (ahead_of (n ∷ [])) (names_again limit v ns u b rest g c k))

few_again : (limit : ℕ) (op : Op) (n : List ℕ) (ns : List (List ℕ)) (e : Tree) (m b c d rest : List Terminal) → AreMore IsName ns m b → Is (Fixed Comma) b c → IsExpr limit e c d → Is (Fixed Close) d rest →
    (i : List Terminal) × Is (Fixed Comma) m i × (few_at limit op n i ≡ Ok (copies op (n ∷ ns) e, d))
unfolding few_at
few_again limit op n ns e m b c d rest more h f g =
    let r = names_from limit ns e m b c d more h f in
    let closed = closes_by Close d rest close g in
    (r.1, r.3, rw (expression_again limit r.0 r.1 r.2 r.4 (names_close limit r.0 ns e r.2 d r.5 closed), names_again limit r.0 ns e r.2 d r.5 closed (not_comma Close d rest refl g)) refl)

connections_few : (limit : ℕ) (op : Op) (n : List ℕ) (ts : List Terminal) → ((op ≡ Buf) ⊎ (op ≡ Not)) → connections_at limit op n ts ≡ few_at limit op n ts
connections_few limit op n ts (inl e) = rw e refl
connections_few limit op n ts (inr e) = rw e refl

connections_many : (limit : ℕ) (op : Op) (n : List ℕ) (ts : List Terminal) → op ≢ Buf → op ≢ Not → connections_at limit op n ts ≡ many_at limit op n ts
connections_many limit Buf n ts f g = absurd (f refl)
connections_many limit Not n ts f g = absurd (g refl)
connections_many limit _ n ts f g = refl

past_label : (ts a b : List Terminal) → IsLabel ts a → Is (Fixed Open) a b → past_name ts ≡ a
past_label ts a b (inl e) h = rw e (rw h refl)
past_label ts a b (inr (n, e)) h = rw e refl

gate_again : (limit : ℕ) (op : Op) (p : PartTree) (ts l rest : List Terminal) → IsLabel ts l → IsGate limit op p l rest → gate_at limit op ts ≡ Ok (p, rest)
unfolding gate_at
gate_again limit op (gate o n es) ts l rest label (same, f, g, (a, b, c, d, opens, name, h, listed, closing)) =
    rw (past_label ts l a label opens, mark_again Open l a opens, name_again n a b name, mark_again Comma b c h, connections_many limit op n c f g, many_again limit op n es c d rest listed closing, mark_again Close d rest closing, same) refl
gate_again limit op (copies o [] e) ts l rest label (same, which, (a, b, c, d, opens, names, h, expr, closing)) = absurd names
gate_again limit op (copies o (n ∷ ns) e) ts l rest label (same, which, (a, b, c, d, opens, (m, name, more), h, expr, closing)) =
    let few = few_again limit op n ns e m b c d rest more h expr closing in
    rw (past_label ts l a label opens, mark_again Open l a opens, name_again n a m name, mark_again Comma m few.0 few.1, connections_few limit op n few.0 which, few.2, mark_again Close d rest closing, same) refl
gate_again limit op _ ts l rest label h = absurd h

part_again : (limit : ℕ) (k : Kind) → Whole (IsPart limit k) (part_at limit k)
part_again limit (Declaration d) (declaration e n) ts rest h c = rw (name_again n ts rest h.1, h.0) refl
part_again limit Wire (wire n e) ts rest h c = wire_again limit n e ts rest h c
part_again limit Assign (assign n e) ts rest h c = assign_again limit n e ts rest h c
part_again limit (Gate op) p ts rest (l, label, g) c = gate_again limit op p ts l rest label g
part_again limit _ _ ts rest h c = absurd h

past_optional : (ts a b : List Terminal) (n : List ℕ) → IsOptional (Fixed WireWord) ts a → IsName n a b → past WireWord ts ≡ a
past_optional ts a b n (inl e) h = rw e (rw h refl)
past_optional ts a b n (inr e) h = rw e refl

declared_first : (limit : ℕ) (d : Direction) (p : PartTree) (ts rest : List Terminal) → IsPart limit (Declaration d) p ts rest → (n : List ℕ) × IsName n ts rest
declared_first limit d (declaration e n) ts rest h = (n, h.1)
declared_first limit d _ ts rest h = absurd h

direction_word : (d : Direction) (a : List Terminal) → kind_at (word d ∷ a) ≡ Ok (Declaration d, past WireWord a)
direction_word Input a = refl
direction_word Output a = refl

kind_again : (limit : ℕ) (k : Kind) (p : PartTree) (ts a b : List Terminal) → IsHead k ts a → IsPart limit k p a b → kind_at ts ≡ Ok (k, a)
kind_again limit (Declaration d) p ts a b (c, e, o) h =
    let n = declared_first limit d p a b h in
    rw e (direction_word d c ∙ ap (λ (l : List Terminal). let x : Kind × List Terminal = (Declaration d, l) in Ok x) (past_optional c a b n.0 o n.1))
kind_again limit Wire p ts a b e h = rw e refl
kind_again limit Assign p ts a b e h = rw e refl
kind_again limit (Gate op) p ts a b e h = rw e refl

pub part_repeats : (limit : ℕ) (k : Kind) → Repeats comma_next (comma_step (part_at limit k))
part_repeats limit k = comma_repeats (IsPart limit k) (part_at limit k) (part_reads limit k) (part_shorter limit k)

item_again : (limit : ℕ) (ps : List PartTree) (ts rest : List Terminal) → IsItem limit ps ts rest → item_at limit ts ≡ Ok (ps, rest)
unfolding item_at
item_again limit [] ts rest (k, a, b, head, listed, e) = absurd listed
item_again limit (p ∷ ps) ts rest (k, a, b, head, (c, part, more), e) =
    rw (
      kind_again limit k p ts a c head part,
      listed_again (IsPart limit k) (part_at limit k) (part_again limit k) (part_repeats limit k) (p ∷ ps) a b (c, part, more) (closes_by Semicolon b rest semicolon e) (not_comma Semicolon b rest refl e),
      mark_again Semicolon b rest e,
    ) refl

direction_goes : (s : Unit {0}) (d : Direction) (a : List Terminal) → item_next s (word d ∷ a) ≡ true
direction_goes s Input a = refl
direction_goes s Output a = refl

item_goes : (limit : ℕ) (s : Unit {0}) (ps : List PartTree) (ts rest : List Terminal) → IsItem limit ps ts rest → item_next s ts ≡ true
item_goes limit s ps ts rest (Declaration d, a, b, (c, e, o), listed, f) = rw e (direction_goes s d c)
item_goes limit s ps ts rest (Wire, a, b, e, listed, f) = rw e refl
item_goes limit s ps ts rest (Assign, a, b, e, listed, f) = rw e refl
item_goes limit s ps ts rest (Gate op, a, b, e, listed, f) = rw e refl

optional_shorter : (t : Terminal) (ts rest : List Terminal) → IsOptional t ts rest → length rest ≤ length ts
optional_shorter t ts rest (inl e) = omega (arith, ap length e)
optional_shorter t ts rest (inr e) = omega (arith, ap length e)

pub head_shorter : (k : Kind) (ts rest : List Terminal) → IsHead k ts rest → length rest < length ts
head_shorter (Declaration d) ts rest (a, e, o) = omega (arith, is_shorter (word d) ts a e, optional_shorter (Fixed WireWord) a rest o)
head_shorter Wire ts rest e = is_shorter (Fixed WireWord) ts rest e
head_shorter Assign ts rest e = is_shorter (Fixed AssignWord) ts rest e
head_shorter (Gate op) ts rest e = is_shorter (GateWord op) ts rest e

item_shorter : (limit : ℕ) (ps : List PartTree) (ts rest : List Terminal) → IsItem limit ps ts rest → length rest < length ts
item_shorter limit ps ts rest (k, a, b, head, listed, e) =
    omega (arith, head_shorter k ts a head, listed_shorter (IsPart limit k) (part_shorter limit k) ps a b listed, is_shorter (Fixed Semicolon) b rest e)

pub items_repeat : (limit : ℕ) → Repeats item_next (one_item limit)
items_repeat limit = record {
  less = λ s ts x e. item_shorter limit x.0.0 ts x.1 (one_item_reads limit s ts x e);
  stops = λ s. refl;
}

pub items_again : (limit : ℕ) (s : Unit {0}) (items : List (List PartTree)) (ts rest : List Terminal) → AreItems limit items ts rest → item_next s rest ≡ false →
    repeated item_next (one_item limit) s ts ≡ Ok ((items, s), rest)
items_again limit s [] ts rest e n = ap (repeated item_next (one_item limit) s) e ∙ repeated_stops item_next (one_item limit) s rest n
items_again limit s (i ∷ items) ts rest (a, item, more) n =
    repeated_step item_next (one_item limit) (items_repeat limit) s s i ts a (item_goes limit s i ts a item) (rw (item_again limit i ts a item) refl)
    ∙ ap (ahead_of (i ∷ [])) (items_again limit s items a rest more n)

plain_again : (words : Bool) (d : Option Direction) (p : Port) (ts rest : List Terminal) → IsPlain d p ts rest → port_at words d ts ≡ Ok (p, rest)
plain_again words d p ts rest (same, name) = rw name (ap (λ (e : Option Direction). let x : Port × List Terminal = (record { name = p.name; direction = e }, rest) in Ok x) (sym same))

word_port : (d : Option Direction) (e : Direction) (ts : List Terminal) → port_at true d (word e ∷ ts) ≡ port_behind e ts
word_port d Input ts = refl
word_port d Output ts = refl

directed_again : (d : Option Direction) (p : Port) (ts rest : List Terminal) → IsDirected p ts rest → port_at true d ts ≡ Ok (p, rest)
directed_again d p ts rest (e, a, same, (c, h, o), name) =
    rw h (word_port d e c ∙ rw (past_optional c a rest p.name o name, name_again p.name a rest name) (ap (λ (e : Option Direction). let x : Port × List Terminal = (record { name = p.name; direction = e }, rest) in Ok x) (sym same)))

some_to : {A : Type 0} (o : Option A) → IsSome o → is_some o ≡ true
some_to (Some x) e = refl
some_to None e = absurd (cc)

behind_port_again : (d : Option Direction) (p : Port) (ts rest : List Terminal) → (IsPlain d p ts rest ⊎ (IsSome d × IsDirected p ts rest)) → port_at (is_some d) d ts ≡ Ok (p, rest)
behind_port_again d p ts rest (inl h) = plain_again (is_some d) d p ts rest h
behind_port_again d p ts rest (inr (some, h)) = rw (some_to d some) (directed_again d p ts rest h)

comma_port_again : (d : Option Direction) (p : Port) (ts c rest : List Terminal) → Is (Fixed Comma) ts c → (IsPlain d p c rest ⊎ (IsSome d × IsDirected p c rest)) →
    comma_port d ts ≡ Ok ((p, p.direction), rest)
comma_port_again d p ts c rest e h = rw (mark_again Comma ts c e, behind_port_again d p c rest h) refl

directed_shorter : (p : Port) (ts rest : List Terminal) → IsDirected p ts rest → length rest ≤ length ts
directed_shorter p ts rest (d, a, same, (c, e, o), name) =
    omega (arith, is_shorter (word d) ts c e, optional_shorter (Fixed WireWord) c a o, is_shorter (Name p.name) a rest name)

port_shorter : (words : Bool) (d : Option Direction) (p : Port) (ts rest : List Terminal) → IsPort words d p ts rest → length rest ≤ length ts
port_shorter words d p ts rest (inl h) = omega (arith, is_shorter (Name p.name) ts rest h.1)
port_shorter words d p ts rest (inr h) = directed_shorter p ts rest h.1

pub ports_repeat : Repeats port_next comma_port
ports_repeat = record {
  less = λ d ts x e.
      let one = comma_port_reads d ts x e in
      omega (arith, is_shorter (Fixed Comma) ts one.0 one.1, port_shorter (is_some d) d x.0.0 one.0 x.1 one.2);
  stops = λ d. refl;
}

ports_behind_again : (d : Option Direction) (ps : List Port) (ts rest : List Terminal) → ArePortsBehind d ps ts rest → next_is Comma rest ≡ false →
    (last : Option Direction) × (repeated port_next comma_port d ts ≡ Ok ((ps, last), rest))
ports_behind_again d [] ts rest e n = (d, ap (repeated port_next comma_port d) e ∙ repeated_stops port_next comma_port d rest n)
ports_behind_again d (p ∷ ps) ts rest (a, b, e, h, more) n =
    let r = ports_behind_again p.direction ps b rest more n in
    (r.0, repeated_step port_next comma_port ports_repeat d p.direction p ts b (next_again Comma ts a e) (comma_port_again d p ts a b e h) ∙ ap (ahead_of (p ∷ [])) r.1)

first_port_again : (p : Port) (ts rest : List Terminal) → (IsPlain None p ts rest ⊎ IsDirected p ts rest) → port_at true None ts ≡ Ok (p, rest)
first_port_again p ts rest (inl h) = plain_again true None p ts rest h
first_port_again p ts rest (inr h) = directed_again None p ts rest h

pub ports_again : (ps : List Port) (ts rest : List Terminal) → ArePorts ps ts rest → next_is Comma rest ≡ false → ports_at ts ≡ Ok (ps, rest)
unfolding ports_at
ports_again [] ts rest h n = absurd h
ports_again (p ∷ ps) ts rest (a, h, more) n =
    let r = ports_behind_again p.direction ps a rest more n in
    rw (first_port_again p ts a h, r.1) refl

-- ports don't begin with a `)`
port_front : (p : Port) (ts rest : List Terminal) → (IsPlain None p ts rest ⊎ IsDirected p ts rest) → next_is Close ts ≡ false
port_front p ts rest (inl h) = rw h.1 refl
port_front p ts rest (inr (Input, a, same, (c, h, o), name)) = rw h refl
port_front p ts rest (inr (Output, a, same, (c, h, o), name)) = rw h refl

pub ports_front : (ps : List Port) (ts rest : List Terminal) → ArePorts ps ts rest → next_is Close ts ≡ false
ports_front [] ts rest h = absurd h
ports_front (p ∷ ps) ts rest (a, h, more) = port_front p ts a h
