-- What each reader reads goes through the stack of its symbols, and where it stops the stack does.
use Rattle.std.proofs.Common.{◌≡◌, ℕ, zero, suc, ◌+◌, ◌<◌, ◌≤◌, Bool, true, false, ◌&&◌, cond, List, [], ◌∷◌, ◌++◌, drop, length, length-drop, Option, Some, None, Result, Ok, Err, refl, sym, ap, subst, ◌∙◌, ◌⊎◌, inl, inr, ⊎_elim, arith}
use Rattle.std.specs.Option.{is_some}
use Rattle.std.proofs.lemmas.Bool.{both_ways, cases_Bool, cases_lt, false_from_ne_true, lt-ltb, le-ltb}
use Rattle.bx_logic.specs.declared.op.Op.{Op}
use Rattle.bx_logic.specs.declared.op.Op.TheVariants.{Buf, Not}
use Rattle.bx_syntax.specs.declared.terminal.Terminal.{Terminal}
use Rattle.bx_syntax.specs.declared.terminal.Terminal.TheVariants.{Fixed, GateWord, Name}
use Rattle.bx_syntax.specs.declared.terminal.Mark.{Mark}
use Rattle.bx_syntax.specs.declared.terminal.Mark.TheVariants.{Module as ModuleWord, EndModule, Input as InputWord, Output as OutputWord, Wire as WireWord, Open, Close, Comma, Semicolon, Equals, Tilde, Ampersand, Caret, TildeCaret, Bar}
use Rattle.bx_syntax.specs.declared.stop.Stop.{Stop}
use Rattle.bx_syntax.specs.declared.stop.Stop.TheVariants.{Deep}
use Rattle.bx_syntax.specs.declared.stop.Wanted.TheVariants.{Primary, Other}
use Rattle.bx_syntax.specs.declared.tree.Operator.{Operator}
use Rattle.bx_syntax.specs.declared.tree.Operator.TheVariants.{And as AndSign, Xor as XorSign, Xnor as XnorSign, Or as OrSign}
use Rattle.bx_syntax.specs.declared.tree.Direction.{Direction}
use Rattle.bx_syntax.specs.declared.tree.Direction.TheVariants.{Input, Output}
use Rattle.bx_syntax.specs.declared.tree.Port.{Port}
use Rattle.bx_syntax.specs.declared.part.Kind.{Kind}
use Rattle.bx_syntax.specs.declared.part.Kind.TheVariants.{Declaration, Wire, Assign, Gate}
use Rattle.bx_syntax.specs.Trees.{Tree, net, Tail}
use Rattle.bx_syntax.specs.Parts.{PartTree, wire, ModuleTree}
use Rattle.bx_syntax.specs.Expressions.{sign}
use Rattle.bx_syntax.specs.ReadsExpressions.{Reader, ◌>>=◌, behind, operator_of, operator_at, link_at, tail_within, tail_at, joined_at, level_at, inverse_with, group_with, primary_at, expr_at}
use Rattle.bx_syntax.specs.Repeats.{repeat_within, repeated, ahead_of}
use Rattle.bx_syntax.specs.ReadsModules.{next_is, name_at, past, past_name, comma_next, comma_step, listed_at, is_net, comma_behind_net, kind_at, item_next, port_behind, port_at, comma_port, port_next, ports_at, header_at, at_end, expression, wire_at, assign_at, many_at, name_and_expression, few_at, connections_at, driven_at, gate_at, part_at, item_at, one_item, module_at}
use Rattle.bx_syntax.proofs.ReadsExpressions.{Ends, again, bind_ok, ok_is, operator_is, shrinks, Shrinks}
use Rattle.bx_syntax.proofs.Repeats.{Repeats}
use Rattle.bx_syntax.proofs.ReadsModules.{expression_reads, part_repeats, items_repeat, ports_repeat, names_repeat}
use Rattle.bx_syntax.proofs.ModuleSteps.{expressions_repeat}
use Rattle.bx_syntax.proofs.Stacks.{Symbol, mark, maybe_wire, name, header, in_header, plain_ports, directed_ports, port, items, parts, driver, primary, operators, arguments, few, behind_name, label, start, Stack, connections, part, item, at_comma, reply, nests, stopped, Agrees, run, Leads, from_here, chain, mark_leads, name_leads, label_passed, wire_passed, mark_front, comma_taken, comma_settles}

abbrev Rest : Type 0 → Type 0
Rest A = A × List Terminal

module _ (limit : ℕ) where
  either_leads : {X : Type 0} (rest : X → List Terminal) (from : Stack) (to : X → Stack) (ts : List Terminal) (b : Bool) (o q : Result X Stop) →
      (b ≡ true → Leads limit rest from to ts o) → (b ≡ false → Leads limit rest from to ts q) → Leads limit rest from to ts (cond b o q)
  either_leads rest from to ts true o q h g = h refl
  either_leads rest from to ts false o q h g = g refl

  -- one thing after the other, where what is to come depends on what stood before and what stands ahead
  pub repeat_leads : {S A : Type 0} (goes : S → List Terminal → Bool) (step : S → Reader (A × S)) (from : S → List Terminal → Stack) →
      ((s : S) (ts : List Terminal) → goes s ts ≡ true → Leads limit (λ (x : Rest (A × S)). x.1) (from s ts) (λ x. from x.0.1 x.1) ts (step s ts)) →
      (n : ℕ) (s : S) (ts : List Terminal) → Leads limit (λ (y : Rest (List A × S)). y.1) (from s ts) (λ y. from y.0.1 y.1) ts (repeat_within goes step n s ts)
  unfolding repeat_within
  repeat_leads goes step from h zero s ts = refl
  repeat_leads {S = S} {A = A} goes step from h (suc n) s ts =
      either_leads (λ (y : Rest (List A × S)). y.1) (from s ts) (λ y. from y.0.1 y.1) ts (goes s ts) _ _
      (λ yes. chain limit (λ (x : Rest (A × S)). x.1) (λ (y : Rest (List A × S)). y.1) (from s ts) (λ x. from x.0.1 x.1) (λ y. from y.0.1 y.1) ts (step s ts) _ (h s ts yes)
      (λ x _. chain limit (λ (y : Rest (List A × S)). y.1) (λ (y : Rest (List A × S)). y.1) (from x.0.1 x.1) (λ y. from y.0.1 y.1) (λ y. from y.0.1 y.1) x.1 (repeat_within goes step n x.0.1 x.1) _
      (repeat_leads goes step from h n x.0.1 x.1) (λ y _. refl)))
      (λ _. refl)

  pub ahead_leads : {S A : Type 0} (from : Stack) (to : S → List Terminal → Stack) (xs : List A) (ts : List Terminal) (o : Result (Rest (List A × S)) Stop) →
      Leads limit (λ (y : Rest (List A × S)). y.1) from (λ y. to y.0.1 y.1) ts o → Leads limit (λ (y : Rest (List A × S)). y.1) from (λ y. to y.0.1 y.1) ts (ahead_of xs o)
  ahead_leads from to xs ts (Ok y) h = h
  ahead_leads from to xs ts (Err w) h = h

-- where it ends, it goes on no more
pub repeat_ends : {S A : Type 0} (goes : S → List Terminal → Bool) (step : S → Reader (A × S)) → Repeats goes step → (n : ℕ) (s : S) (ts : List Terminal) (y : Rest (List A × S)) → length ts ≤ n →
    repeat_within goes step n s ts ≡ Ok y → goes y.0.1 y.1 ≡ false
unfolding repeat_within
repeat_ends goes step h zero s [] y room e = ap (λ (x : Rest (List _ × _)). goes x.0.1 x.1) (sym (ok_is e)) ∙ h.stops s
repeat_ends goes step h zero s (t ∷ ts) y room e = absurd (omega arith)
repeat_ends {S = S} {A = A} goes step h (suc n) s ts y room e = by_test (goes s ts) refl e (λ r rest. repeat_ends goes step h n r rest)
  where
    by_test : (b : Bool) → goes s ts ≡ b → cond b (step s ts >>= λ (x : Rest (A × S)). repeat_within goes step n x.0.1 x.1 >>= λ (z : Rest (List A × S)). let w : Rest (List A × S) = ((x.0.0 ∷ z.0.0, z.0.1), z.1) in Ok w) (Ok (([], s), ts)) ≡ Ok y →
        ((r : S) (rest : List Terminal) (z : Rest (List A × S)) → length rest ≤ n → repeat_within goes step n r rest ≡ Ok z → goes z.0.1 z.1 ≡ false) → goes y.0.1 y.1 ≡ false
    by_test false same e again = ap (λ (x : Rest (List A × S)). goes x.0.1 x.1) (sym (ok_is e)) ∙ same
    by_test true same e again =
        let x = bind_ok {o = step s ts} e in
        let z = bind_ok {o = repeat_within goes step n x.0.0.1 x.0.1} x.2 in
        ap (λ (w : Rest (List A × S)). goes w.0.1 w.1) (sym (ok_is z.2)) ∙ again x.0.0.1 x.0.1 z.0 (omega (arith, h.less s ts x.0 x.1)) z.1

-- what is read behind something ends as the rest does
pub ahead_ends : {S A : Type 0} (goes : S → List Terminal → Bool) (xs : List A) (o : Result (Rest (List A × S)) Stop) (y : Rest (List A × S)) →
    ((z : Rest (List A × S)) → o ≡ Ok z → goes z.0.1 z.1 ≡ false) → ahead_of xs o ≡ Ok y → goes y.0.1 y.1 ≡ false
ahead_ends {S = S} {A = A} goes xs (Ok z) y h e = ap (λ (w : Rest (List A × S)). goes w.0.1 w.1) (sym (ok_is e)) ∙ h z refl
ahead_ends goes xs (Err w) y h e = absurd (cc)

module _ (limit : ℕ) where
  -- x { ',' x }
  module _ {A : Type 0} (p : Reader A) (x : Symbol) (more : Stack) (P : Stack → Stack) (waits : (t : Terminal) → reply x t ≡ at_comma more t)
      (joins : (rest : Stack) → more ++ rest ≡ P (x ∷ rest)) (steps : Repeats comma_next (comma_step p))
      (element : (y : Symbol) (rest : Stack) (ts : List Terminal) → Leads limit (λ (r : Rest A). r.1) (P (y ∷ rest)) (λ _. y ∷ rest) ts (p ts)) where
    abbrev coming : Symbol → Stack → Unit {0} → List Terminal → Stack
    coming y rest s ts = cond (comma_next s ts) (x ∷ y ∷ rest) (y ∷ rest)

    comma_leads : (y : Symbol) (rest : Stack) (s : Unit {0}) (ts us : List Terminal) → ts ≡ Fixed Comma ∷ us →
        Leads limit (λ (r : Rest (A × Unit {0})). r.1) (coming y rest s ts) (λ r. coming y rest r.0.1 r.1) ts (comma_step p s ts)
    comma_leads y rest s ts us e =
        subst (λ (vs : List Terminal). Leads limit (λ (r : Rest (A × Unit {0})). r.1) (coming y rest s vs) (λ r. coming y rest r.0.1 r.1) vs (comma_step p s vs)) (sym e)
        (from_here limit (λ (r : Rest (A × Unit {0})). r.1) (x ∷ y ∷ rest) (P (x ∷ y ∷ rest)) (λ r. coming y rest r.0.1 r.1) (Fixed Comma ∷ us) us (comma_step p s (Fixed Comma ∷ us))
        (comma_taken limit x more (y ∷ rest) us waits ∙ ap (λ stack. run limit stack us) (joins (y ∷ rest)))
        (chain limit (λ (r : Rest A). r.1) (λ (r : Rest (A × Unit {0})). r.1) (P (x ∷ y ∷ rest)) (λ _. x ∷ y ∷ rest) (λ r. coming y rest r.0.1 r.1) us (p us) _ (element x (y ∷ rest) us)
        (λ r _. comma_settles limit x more y rest r.1 waits)))

    pub list_leads : (y : Symbol) (rest : Stack) (ts : List Terminal) → Leads limit (λ (r : Rest (List A)). r.1) (P (x ∷ y ∷ rest)) (λ _. y ∷ rest) ts (listed_at p ts)
    unfolding repeated
    list_leads y rest ts =
        chain limit (λ (r : Rest A). r.1) (λ (r : Rest (List A)). r.1) (P (x ∷ y ∷ rest)) (λ _. x ∷ y ∷ rest) (λ _. y ∷ rest) ts (p ts) _ (element x (y ∷ rest) ts)
        (λ a _.
        chain limit (λ (r : Rest (List A × Unit {0})). r.1) (λ (r : Rest (List A)). r.1) (x ∷ y ∷ rest) (λ r. coming y rest r.0.1 r.1) (λ _. y ∷ rest) a.1
        (ahead_of (a.0 ∷ []) (repeat_within comma_next (comma_step p) (length a.1) tt a.1)) _
        (from_here limit (λ (r : Rest (List A × Unit {0})). r.1) (x ∷ y ∷ rest) (coming y rest tt a.1) (λ r. coming y rest r.0.1 r.1) a.1 a.1
        (ahead_of (a.0 ∷ []) (repeat_within comma_next (comma_step p) (length a.1) tt a.1)) (comma_settles limit x more y rest a.1 waits)
        (ahead_leads limit (coming y rest tt a.1) (coming y rest) (a.0 ∷ []) a.1 (repeat_within comma_next (comma_step p) (length a.1) tt a.1)
        (repeat_leads limit comma_next (comma_step p) (coming y rest) (λ s us goes. let c = mark_front limit Comma us goes in comma_leads y rest s us c.0 c.1) (length a.1) tt a.1)))
        (λ r e.
        let stops = ahead_ends comma_next (a.0 ∷ []) (repeat_within comma_next (comma_step p) (length a.1) tt a.1) r
        (λ z f. repeat_ends comma_next (comma_step p) steps (length a.1) tt a.1 z (omega arith) f) e in
        ap (λ b. run limit (cond b (x ∷ y ∷ rest) (y ∷ rest)) r.1) stops))

-- expressions

no_operator_more : (k : ℕ) (ts : List Terminal) → Ends k ts → operator_at k ts ≡ None → Ends (suc k) ts
no_operator_more k ts h e = record {
  none = λ j lt. ⊎_elim (λ same. subst (λ i. operator_at i ts ≡ None) (sym same) e) (λ less. h.none j less) (below_or j k lt);
} where
  below_or : (j k : ℕ) → j < suc k → (j ≡ k) ⊎ (j < k)
  below_or j k lt = ⊎_elim (λ less. inr less) (λ at_least. let same : j ≡ k = omega arith in inl same) (cases_lt j k)

ends_empty : (k : ℕ) → Ends k []
ends_empty k = record { none = λ j lt. refl }

abbrev EndsAt : ℕ → Reader Tree → Type 0
EndsAt k p = (ts : List Terminal) (x : Rest Tree) → p ts ≡ Ok x → Ends k x.1

link_at_ends : (p : Reader Tree) (more : Reader Tail) (k n : ℕ) → Shrinks p → EndsAt k p →
    ((ts : List Terminal) (x : Rest Tail) → Ends k ts → length ts ≤ n → more ts ≡ Ok x → Ends (suc k) x.1) →
    (o : Option Operator) (ts : List Terminal) (x : Rest Tail) → operator_at k ts ≡ o → Ends k ts → length ts ≤ suc n → link_at p more o ts ≡ Ok x → Ends (suc k) x.1
link_at_ends p more k n less f again None ts x same h room e = subst (λ (y : Rest Tail). Ends (suc k) y.1) (ok_is e) (no_operator_more k ts h same)
link_at_ends p more k n less f again (Some o) ts x same h room e =
    let a = bind_ok {o = p (drop 1 ts)} e in
    let b = bind_ok {o = more a.0.1} a.2 in
    let shorter = less.less (drop 1 ts) a.0 a.1 in
    subst (λ (y : Rest Tail). Ends (suc k) y.1) (ok_is b.2) (again a.0.1 b.0 (f (drop 1 ts) a.0 a.1) (omega (arith, shorter, length-drop 1 ts)) b.1)

tail_ends_at : (p : Reader Tree) (k n : ℕ) → Shrinks p → EndsAt k p → (ts : List Terminal) (x : Rest Tail) → Ends k ts → length ts ≤ n → tail_within p k n ts ≡ Ok x → Ends (suc k) x.1
unfolding tail_within
tail_ends_at p k zero less f [] x h room e = subst (λ (y : Rest Tail). Ends (suc k) y.1) (ok_is e) (ends_empty (suc k))
tail_ends_at p k zero less f (t ∷ ts) x h room e = absurd (omega arith)
tail_ends_at p k (suc n) less f ts x h room e = link_at_ends p (tail_within p k n) k n less f (tail_ends_at p k n less f) (operator_at k ts) ts x refl h room e

joined_ends : (p : Reader Tree) (k : ℕ) → Shrinks p → EndsAt k p → EndsAt (suc k) (joined_at p k)
unfolding joined_at tail_at
joined_ends p k less f ts x e =
    let a = bind_ok {o = p ts} e in
    let b = bind_ok {o = tail_within p k (length a.0.1) a.0.1} a.2 in
    subst (λ (y : Rest Tree). Ends (suc k) y.1) (ok_is b.2) (tail_ends_at p k (length a.0.1) less f a.0.1 b.0 (f ts a.0 a.1) (omega arith) b.1)

level_ends : (d k : ℕ) → EndsAt k (level_at (primary_at d) k)
unfolding level_at
level_ends d zero ts x e = record { none = λ j lt. absurd (omega arith) }
level_ends d (suc k) ts x e = joined_ends (level_at (primary_at d) k) k (shrinks d k) (level_ends d k) ts x e

module _ (limit : ℕ) where
  -- where no operator stands at the front, none is waited for
  no_mark : (n : ℕ) (x : Symbol) (rest : Stack) (s : Mark) (ts : List Terminal) → operator_of s ≡ None → run limit (operators n ∷ x ∷ rest) (Fixed s ∷ ts) ≡ run limit (x ∷ rest) (Fixed s ∷ ts)
  no_mark n x rest s ts e = rw e refl

  has_none : (s : Mark) (ts : List Terminal) → Ends 3 (Fixed s ∷ ts) → operator_of s ≡ None
  has_none Ampersand ts h = absurd (let e = h.none 0 (omega arith) in cc)
  has_none Caret ts h = absurd (let e = h.none 1 (omega arith) in cc)
  has_none TildeCaret ts h = absurd (let e = h.none 1 (omega arith) in cc)
  has_none Bar ts h = absurd (let e = h.none 2 (omega arith) in cc)
  has_none _ ts h = refl

  pub operators_passed : (n : ℕ) (x : Symbol) (rest : Stack) (ts : List Terminal) → Ends 3 ts → run limit (operators n ∷ x ∷ rest) ts ≡ run limit (x ∷ rest) ts
  operators_passed n x rest [] h = refl
  operators_passed n x rest (Fixed s ∷ ts) h = no_mark n x rest s ts (has_none s ts h)
  operators_passed n x rest (_ ∷ ts) h = refl

  operator_taken : (n : ℕ) (rest : Stack) (o : Operator) (ts : List Terminal) → run limit (operators n ∷ rest) (sign o ∷ ts) ≡ run limit (primary n ∷ operators n ∷ rest) ts
  operator_taken n rest AndSign ts = refl
  operator_taken n rest _ ts = refl

  -- a reader of operands of a level
  abbrev Operand : ℕ → Reader Tree → Type 0
  Operand n p = (rest : Stack) (ts : List Terminal) → Leads limit (λ (x : Rest Tree). x.1) (primary n ∷ operators n ∷ rest) (λ _. operators n ∷ rest) ts (p ts)

  link_at_leads : (n k : ℕ) (p : Reader Tree) (more : Reader Tail) → Operand n p → (rest : Stack) →
      ((ts : List Terminal) → Leads limit (λ (x : Rest Tail). x.1) (operators n ∷ rest) (λ _. operators n ∷ rest) ts (more ts)) →
      (o : Option Operator) (ts : List Terminal) → operator_at k ts ≡ o → Leads limit (λ (x : Rest Tail). x.1) (operators n ∷ rest) (λ _. operators n ∷ rest) ts (link_at p more o ts)
  link_at_leads n k p more f rest g None ts e = refl
  link_at_leads n k p more f rest g (Some o) ts e =
      let front = (operator_is k ts o e).0 in
      from_here limit (λ (x : Rest Tail). x.1) (operators n ∷ rest) (primary n ∷ operators n ∷ rest) (λ _. operators n ∷ rest) ts (drop 1 ts) (link_at p more (Some o) ts)
      (ap (run limit (operators n ∷ rest)) front ∙ operator_taken n rest o (drop 1 ts))
      (chain limit (λ (x : Rest Tree). x.1) (λ (x : Rest Tail). x.1) (primary n ∷ operators n ∷ rest) (λ _. operators n ∷ rest) (λ _. operators n ∷ rest) (drop 1 ts) (p (drop 1 ts)) _ (f rest (drop 1 ts))
      (λ x _. chain limit (λ (y : Rest Tail). y.1) (λ (y : Rest Tail). y.1) (operators n ∷ rest) (λ _. operators n ∷ rest) (λ _. operators n ∷ rest) x.1 (more x.1) _ (g x.1) (λ y _. refl)))

  tail_leads : (n k m : ℕ) (p : Reader Tree) → Operand n p → (rest : Stack) (ts : List Terminal) → Leads limit (λ (x : Rest Tail). x.1) (operators n ∷ rest) (λ _. operators n ∷ rest) ts (tail_within p k m ts)
  unfolding tail_within
  tail_leads n k zero p f rest ts = refl
  tail_leads n k (suc m) p f rest ts = link_at_leads n k p (tail_within p k m) f rest (tail_leads n k m p f rest) (operator_at k ts) ts refl

  joined_leads : (n k : ℕ) (p : Reader Tree) → Operand n p → Operand n (joined_at p k)
  unfolding joined_at tail_at
  joined_leads n k p f rest ts =
      chain limit (λ (x : Rest Tree). x.1) (λ (x : Rest Tree). x.1) (primary n ∷ operators n ∷ rest) (λ _. operators n ∷ rest) (λ _. operators n ∷ rest) ts (p ts) _ (f rest ts)
      (λ x _. chain limit (λ (y : Rest Tail). y.1) (λ (y : Rest Tree). y.1) (operators n ∷ rest) (λ _. operators n ∷ rest) (λ _. operators n ∷ rest) x.1 (tail_within p k (length x.1) x.1) _ (tail_leads n k (length x.1) p f rest x.1) (λ y _. refl))

  level_leads : (n k : ℕ) (p : Reader Tree) → Operand n p → Operand n (level_at p k)
  unfolding level_at
  level_leads n zero p f = f
  level_leads n (suc k) p f = joined_leads n k (level_at p k) (level_leads n k p f)

  -- a primary that stands inside so many others, where so many more may nest
  abbrev Primary_ : ℕ → Reader Tree → Type 0
  Primary_ n p = (rest : Stack) (ts : List Terminal) → Leads limit (λ (x : Rest Tree). x.1) (primary n ∷ rest) (λ _. rest) ts (p ts)

  nests_here : (n : ℕ) (more rest : Stack) (t : Terminal) (ts : List Terminal) → reply (primary n) t ≡ nests n more → n < limit → run limit (primary n ∷ rest) (t ∷ ts) ≡ run limit (more ++ rest) ts
  nests_here n more rest t ts e h = rw (e, lt-ltb n limit h) refl

  nests_no_more : (n : ℕ) (more rest : Stack) (t : Terminal) (ts : List Terminal) → reply (primary n) t ≡ nests n more → limit ≤ n → run limit (primary n ∷ rest) (t ∷ ts) ≡ stopped (Deep (suc (length ts)))
  nests_no_more n more rest t ts e h = rw (e, le-ltb n limit h) refl

  pub expression_leads : (n d : ℕ) → Primary_ n (primary_at d) → (x : Symbol) (rest : Stack) (ts : List Terminal) → Leads limit (λ (r : Rest Tree). r.1) (primary n ∷ operators n ∷ x ∷ rest) (λ _. x ∷ rest) ts (expr_at d ts)
  expression_leads n d f x rest ts = settled (expr_at d ts) refl (level_leads n 3 (primary_at d) (λ rest. f (operators n ∷ rest)) (x ∷ rest) ts) where
    settled : (r : Result (Rest Tree) Stop) → expr_at d ts ≡ r → Leads limit (λ (r : Rest Tree). r.1) (primary n ∷ operators n ∷ x ∷ rest) (λ _. operators n ∷ x ∷ rest) ts r →
        Leads limit (λ (r : Rest Tree). r.1) (primary n ∷ operators n ∷ x ∷ rest) (λ _. x ∷ rest) ts r
    settled (Ok r) e h = h ∙ operators_passed n x rest r.1 (level_ends d 3 ts r e)
    settled (Err w) e h = h

  inverse_leads : (n d : ℕ) → Primary_ (suc n) (primary_at d) → n < limit → (rest : Stack) (ts : List Terminal) → Leads limit (λ (r : Rest Tree). r.1) (primary n ∷ rest) (λ _. rest) (Fixed Tilde ∷ ts) (inverse_with (primary_at d) ts)
  inverse_leads n d f h rest ts =
      from_here limit (λ (r : Rest Tree). r.1) (primary n ∷ rest) (primary (suc n) ∷ rest) (λ _. rest) (Fixed Tilde ∷ ts) ts (inverse_with (primary_at d) ts)
      (nests_here n (primary (suc n) ∷ []) rest (Fixed Tilde) ts refl h)
      (chain limit (λ (r : Rest Tree). r.1) (λ (r : Rest Tree). r.1) (primary (suc n) ∷ rest) (λ _. rest) (λ _. rest) ts (primary_at d ts) _ (f rest ts) (λ x _. refl))

  group_leads : (n d : ℕ) → Primary_ (suc n) (primary_at d) → n < limit → (rest : Stack) (ts : List Terminal) → Leads limit (λ (r : Rest Tree). r.1) (primary n ∷ rest) (λ _. rest) (Fixed Open ∷ ts) (group_with (expr_at d) ts)
  group_leads n d f h rest ts =
      from_here limit (λ (r : Rest Tree). r.1) (primary n ∷ rest) (primary (suc n) ∷ operators (suc n) ∷ mark Close ∷ rest) (λ _. rest) (Fixed Open ∷ ts) ts (group_with (expr_at d) ts)
      (nests_here n (primary (suc n) ∷ operators (suc n) ∷ mark Close ∷ []) rest (Fixed Open) ts refl h)
      (chain limit (λ (r : Rest Tree). r.1) (λ (r : Rest Tree). r.1) (primary (suc n) ∷ operators (suc n) ∷ mark Close ∷ rest) (λ _. mark Close ∷ rest) (λ _. rest) ts (expr_at d ts) _
      (expression_leads (suc n) d f (mark Close) rest ts)
      (λ x _. chain limit (λ us. us) (λ (r : Rest Tree). r.1) (mark Close ∷ rest) (λ _. rest) (λ _. rest) x.1 (behind Close x.1) _ (mark_leads limit Close rest x.1) (λ us _. refl)))

  pub primary_leads : (d n : ℕ) → n + d ≡ limit → Primary_ n (primary_at d)
  unfolding primary_at
  primary_leads zero n e rest [] = (Primary, refl)
  primary_leads zero n e rest (Fixed Tilde ∷ ts) = subst (Agrees (Deep (suc (length ts)))) (sym (nests_no_more n (primary (suc n) ∷ []) rest (Fixed Tilde) ts refl (omega arith))) refl
  primary_leads zero n e rest (Fixed Open ∷ ts) = subst (Agrees (Deep (suc (length ts)))) (sym (nests_no_more n (primary (suc n) ∷ operators (suc n) ∷ mark Close ∷ []) rest (Fixed Open) ts refl (omega arith))) refl
  primary_leads zero n e rest (_ ∷ ts) = refl
  primary_leads (suc d) n e rest [] = (Primary, refl)
  primary_leads (suc d) n e rest (Fixed Tilde ∷ ts) = inverse_leads n d (primary_leads d (suc n) (omega arith)) (omega arith) rest ts
  primary_leads (suc d) n e rest (Fixed Open ∷ ts) = group_leads n d (primary_leads d (suc n) (omega arith)) (omega arith) rest ts
  primary_leads (suc d) n e rest (_ ∷ ts) = refl

-- items

pub part-append : (kind : Kind) (xs ys : Stack) → part kind xs ++ ys ≡ part kind (xs ++ ys)
part-append (Gate Buf) xs ys = refl
part-append _ xs ys = refl

-- a name with a comma behind it
abbrev is_bare : List Terminal → Bool
is_bare (Name n ∷ ts) = next_is Comma ts
is_bare _ = false

and_both : (a b : Bool) → (a && b) ≡ true → (a ≡ true) × (b ≡ true)
and_both true true e = (refl, refl)
and_both true false e = absurd (both_ways false refl e)
and_both false b e = absurd (both_ways false refl e)

bare_net : (limit : ℕ) (t : Tree) (ts rest : List Terminal) → expression limit ts ≡ Ok (t, rest) → comma_behind_net t rest ≡ true → is_bare ts ≡ true
bare_net limit (net n) ts rest e h =
    let both = and_both (next_is Comma rest) true h in
    ap is_bare (expression_reads limit ts (net n, rest) e).2 ∙ both.0
bare_net limit _ ts rest e h = absurd (both_ways false refl (and_both (next_is Comma rest) false h).1)

module _ (limit : ℕ) where
  pub expression_at : (x : Symbol) (rest : Stack) (ts : List Terminal) → Leads limit (λ (r : Rest Tree). r.1) (primary 0 ∷ operators 0 ∷ x ∷ rest) (λ _. x ∷ rest) ts (expression limit ts)
  unfolding expression
  expression_at x rest ts = expression_leads limit 0 limit (primary_leads limit limit 0 (omega arith)) x rest ts

  -- wires and assignments

  driver_passed : (x : Symbol) (rest : Stack) (ts : List Terminal) → next_is Equals ts ≡ false → run limit (driver ∷ x ∷ rest) ts ≡ run limit (x ∷ rest) ts
  driver_passed x rest (Fixed Equals ∷ ts) e = absurd (both_ways true e refl)
  driver_passed x rest _ e = refl

  driver_leads : (n : List ℕ) (x : Symbol) (rest : Stack) (ts us : List Terminal) → ts ≡ Fixed Equals ∷ us →
      Leads limit (λ (r : Rest PartTree). r.1) (driver ∷ x ∷ rest) (λ _. x ∷ rest) ts (behind Equals ts >>= λ r. expression limit r >>= λ (e : Rest Tree). let w : Rest PartTree = (wire n (Some e.0), e.1) in Ok w)
  driver_leads n x rest ts us e =
      subst (λ (vs : List Terminal). Leads limit (λ (r : Rest PartTree). r.1) (driver ∷ x ∷ rest) (λ _. x ∷ rest) vs (behind Equals vs >>= λ r. expression limit r >>= λ (e : Rest Tree). let w : Rest PartTree = (wire n (Some e.0), e.1) in Ok w)) (sym e)
      (chain limit (λ (r : Rest Tree). r.1) (λ (r : Rest PartTree). r.1) (driver ∷ x ∷ rest) (λ _. x ∷ rest) (λ _. x ∷ rest) (Fixed Equals ∷ us) (expression limit us) _
      (from_here limit (λ (r : Rest Tree). r.1) (driver ∷ x ∷ rest) (primary 0 ∷ operators 0 ∷ x ∷ rest) (λ _. x ∷ rest) (Fixed Equals ∷ us) us (expression limit us) refl (expression_at x rest us))
      (λ r _. refl))

  wire_leads : (x : Symbol) (rest : Stack) (ts : List Terminal) → Leads limit (λ (r : Rest PartTree). r.1) (name ∷ driver ∷ x ∷ rest) (λ _. x ∷ rest) ts (wire_at limit ts)
  unfolding wire_at
  wire_leads x rest ts =
      chain limit (λ (n : Rest (List ℕ)). n.1) (λ (r : Rest PartTree). r.1) (name ∷ driver ∷ x ∷ rest) (λ _. driver ∷ x ∷ rest) (λ _. x ∷ rest) ts (name_at ts) _ (name_leads limit (driver ∷ x ∷ rest) ts)
      (λ n _. either_leads limit (λ (r : Rest PartTree). r.1) (driver ∷ x ∷ rest) (λ _. x ∷ rest) n.1 (next_is Equals n.1) _ _
      (λ yes. let c = mark_front limit Equals n.1 yes in driver_leads n.0 x rest n.1 c.0 c.1)
      (λ other. driver_passed x rest n.1 other))

  assign_leads : (x : Symbol) (rest : Stack) (ts : List Terminal) → Leads limit (λ (r : Rest PartTree). r.1) (part Assign (x ∷ rest)) (λ _. x ∷ rest) ts (assign_at limit ts)
  unfolding assign_at
  assign_leads x rest ts =
      chain limit (λ (n : Rest (List ℕ)). n.1) (λ (r : Rest PartTree). r.1) (part Assign (x ∷ rest)) (λ _. mark Equals ∷ primary 0 ∷ operators 0 ∷ x ∷ rest) (λ _. x ∷ rest) ts (name_at ts) _ (name_leads limit (mark Equals ∷ primary 0 ∷ operators 0 ∷ x ∷ rest) ts)
      (λ n _. chain limit (λ us. us) (λ (r : Rest PartTree). r.1) (mark Equals ∷ primary 0 ∷ operators 0 ∷ x ∷ rest) (λ _. primary 0 ∷ operators 0 ∷ x ∷ rest) (λ _. x ∷ rest) n.1 (behind Equals n.1) _ (mark_leads limit Equals (primary 0 ∷ operators 0 ∷ x ∷ rest) n.1)
      (λ us _. chain limit (λ (r : Rest Tree). r.1) (λ (r : Rest PartTree). r.1) (primary 0 ∷ operators 0 ∷ x ∷ rest) (λ _. x ∷ rest) (λ _. x ∷ rest) us (expression limit us) _ (expression_at x rest us) (λ r _. refl)))

  -- gates

  many_leads : (op : Op) (n : List ℕ) (x : Symbol) (rest : Stack) (ts : List Terminal) → Leads limit (λ (r : Rest PartTree). r.1) (primary 0 ∷ operators 0 ∷ arguments ∷ x ∷ rest) (λ _. x ∷ rest) ts (many_at limit op n ts)
  unfolding many_at
  many_leads op n x rest ts =
      chain limit (λ (r : Rest (List Tree)). r.1) (λ (r : Rest PartTree). r.1) (primary 0 ∷ operators 0 ∷ arguments ∷ x ∷ rest) (λ _. x ∷ rest) (λ _. x ∷ rest) ts (listed_at (expression limit) ts) _
      (list_leads limit (expression limit) arguments (primary 0 ∷ operators 0 ∷ arguments ∷ []) (λ stack. primary 0 ∷ operators 0 ∷ stack) (λ t. refl) (λ stack. refl) (expressions_repeat limit) expression_at x rest ts)
      (λ r _. refl)

  few_is_primary : (x : Symbol) (rest : Stack) (ts : List Terminal) → is_bare ts ≡ false → run limit (few ∷ x ∷ rest) ts ≡ run limit (primary 0 ∷ operators 0 ∷ x ∷ rest) ts
  few_is_primary x rest (Name n ∷ Fixed Comma ∷ ts) e = absurd (both_ways true e refl)
  few_is_primary x rest (Fixed Tilde ∷ ts) e = refl
  few_is_primary x rest _ e = refl

  -- what comes behind an expression among the names of a `buf` or `not`
  abbrev names_from : Symbol → Stack → Tree → List Terminal → Stack
  names_from x rest t ts = cond (comma_behind_net t ts) (behind_name ∷ x ∷ rest) (x ∷ rest)

  bare_leads : (x : Symbol) (rest : Stack) (ts : List Terminal) → is_bare ts ≡ true → Leads limit (λ (r : Rest Tree). r.1) (few ∷ x ∷ rest) (λ r. names_from x rest r.0 r.1) ts (expression limit ts)
  unfolding expression
  bare_leads x rest (Name n ∷ Fixed Comma ∷ ts) e =
      subst (λ (o : Result (Rest Tree) Stop). Leads limit (λ (r : Rest Tree). r.1) (few ∷ x ∷ rest) (λ r. names_from x rest r.0 r.1) (Name n ∷ Fixed Comma ∷ ts) o)
      (sym (again (net n) limit 3 (Fixed Comma ∷ ts) tt (omega arith) (record { none = λ j lt. refl }))) refl
  bare_leads x rest _ e = absurd (both_ways false refl e)

  few_expression : (x : Symbol) (rest : Stack) (ts : List Terminal) → Leads limit (λ (r : Rest Tree). r.1) (few ∷ x ∷ rest) (λ r. names_from x rest r.0 r.1) ts (expression limit ts)
  few_expression x rest ts = ⊎_elim (λ yes. bare_leads x rest ts yes) (λ other. plain other (expression limit ts) refl (expression_at x rest ts)) (cases_Bool (is_bare ts)) where
    plain : is_bare ts ≡ false → (r : Result (Rest Tree) Stop) → expression limit ts ≡ r → Leads limit (λ (r : Rest Tree). r.1) (primary 0 ∷ operators 0 ∷ x ∷ rest) (λ _. x ∷ rest) ts r →
        Leads limit (λ (r : Rest Tree). r.1) (few ∷ x ∷ rest) (λ r. names_from x rest r.0 r.1) ts r
    plain other (Ok r) e h =
        few_is_primary x rest ts other ∙ h
        ∙ ap (λ b. run limit (cond b (behind_name ∷ x ∷ rest) (x ∷ rest)) r.1) (sym (false_from_ne_true (comma_behind_net r.0 r.1) (λ comma. both_ways (is_bare ts) other (bare_net limit r.0 ts r.1 e comma))))
    plain other (Err w) e h = subst (Agrees w) (sym (few_is_primary x rest ts other)) h

  name_leads_on : (x : Symbol) (rest : Stack) (t : Tree) (ts us : List Terminal) → comma_behind_net t ts ≡ true → ts ≡ Fixed Comma ∷ us →
      Leads limit (λ (r : Rest (List ℕ × Tree)). r.1) (names_from x rest t ts) (λ r. names_from x rest r.0.1 r.1) ts (name_and_expression limit t ts)
  name_leads_on x rest t ts us goes e =
      from_here limit (λ (r : Rest (List ℕ × Tree)). r.1) (names_from x rest t ts) (behind_name ∷ x ∷ rest) (λ r. names_from x rest r.0.1 r.1) ts ts (name_and_expression limit t ts)
      (ap (λ b. run limit (cond b (behind_name ∷ x ∷ rest) (x ∷ rest)) ts) goes)
      (subst (λ (vs : List Terminal). Leads limit (λ (r : Rest (List ℕ × Tree)). r.1) (behind_name ∷ x ∷ rest) (λ r. names_from x rest r.0.1 r.1) vs (name_and_expression limit t vs)) (sym e)
      (chain limit (λ (r : Rest Tree). r.1) (λ (r : Rest (List ℕ × Tree)). r.1) (behind_name ∷ x ∷ rest) (λ r. names_from x rest r.0 r.1) (λ r. names_from x rest r.0.1 r.1) (Fixed Comma ∷ us) (expression limit us) _
      (from_here limit (λ (r : Rest Tree). r.1) (behind_name ∷ x ∷ rest) (few ∷ x ∷ rest) (λ r. names_from x rest r.0 r.1) (Fixed Comma ∷ us) us (expression limit us) refl (few_expression x rest us))
      (λ r _. refl)))

  few_leads : (op : Op) (n : List ℕ) (x : Symbol) (rest : Stack) (ts : List Terminal) → Leads limit (λ (r : Rest PartTree). r.1) (few ∷ x ∷ rest) (λ _. x ∷ rest) ts (few_at limit op n ts)
  unfolding few_at repeated
  few_leads op n x rest ts =
      chain limit (λ (r : Rest Tree). r.1) (λ (r : Rest PartTree). r.1) (few ∷ x ∷ rest) (λ r. names_from x rest r.0 r.1) (λ _. x ∷ rest) ts (expression limit ts) _ (few_expression x rest ts)
      (λ a _. chain limit (λ (r : Rest (List (List ℕ) × Tree)). r.1) (λ (r : Rest PartTree). r.1) (names_from x rest a.0 a.1) (λ r. names_from x rest r.0.1 r.1) (λ _. x ∷ rest) a.1
      (ahead_of (n ∷ []) (repeat_within comma_behind_net (name_and_expression limit) (length a.1) a.0 a.1)) _
      (ahead_leads limit (names_from x rest a.0 a.1) (names_from x rest) (n ∷ []) a.1 (repeat_within comma_behind_net (name_and_expression limit) (length a.1) a.0 a.1)
      (repeat_leads limit comma_behind_net (name_and_expression limit) (names_from x rest) (λ t us goes. let c = mark_front limit Comma us (and_both (next_is Comma us) (is_net t) goes).0 in name_leads_on x rest t us c.0 goes c.1) (length a.1) a.0 a.1))
      (λ r e.
      let stops = ahead_ends comma_behind_net (n ∷ []) (repeat_within comma_behind_net (name_and_expression limit) (length a.1) a.0 a.1) r
      (λ z f. repeat_ends comma_behind_net (name_and_expression limit) (names_repeat limit) (length a.1) a.0 a.1 z (omega arith) f) e in
      ap (λ b. run limit (cond b (behind_name ∷ x ∷ rest) (x ∷ rest)) r.1) stops))

  connections_lead : (op : Op) (n : List ℕ) (x : Symbol) (rest : Stack) (ts : List Terminal) → Leads limit (λ (r : Rest PartTree). r.1) (connections op (x ∷ rest)) (λ _. x ∷ rest) ts (connections_at limit op n ts)
  connections_lead Buf n x rest ts = few_leads Buf n x rest ts
  connections_lead Not n x rest ts = few_leads Not n x rest ts
  connections_lead op n x rest ts = many_leads op n x rest ts

  driven_leads : (rest : Stack) (ts : List Terminal) → Leads limit (λ (n : Rest (List ℕ)). n.1) (label ∷ mark Open ∷ name ∷ mark Comma ∷ rest) (λ _. rest) ts (driven_at ts)
  driven_leads rest ts =
      from_here limit (λ (n : Rest (List ℕ)). n.1) (label ∷ mark Open ∷ name ∷ mark Comma ∷ rest) (mark Open ∷ name ∷ mark Comma ∷ rest) (λ _. rest) ts (past_name ts) _ (label_passed limit (mark Open) (name ∷ mark Comma ∷ rest) ts)
      (chain limit (λ us. us) (λ (n : Rest (List ℕ)). n.1) (mark Open ∷ name ∷ mark Comma ∷ rest) (λ _. name ∷ mark Comma ∷ rest) (λ _. rest) (past_name ts) (behind Open (past_name ts)) _ (mark_leads limit Open (name ∷ mark Comma ∷ rest) (past_name ts))
      (λ a _. chain limit (λ (n : Rest (List ℕ)). n.1) (λ (n : Rest (List ℕ)). n.1) (name ∷ mark Comma ∷ rest) (λ _. mark Comma ∷ rest) (λ _. rest) a (name_at a) _ (name_leads limit (mark Comma ∷ rest) a)
      (λ n _. chain limit (λ us. us) (λ (n : Rest (List ℕ)). n.1) (mark Comma ∷ rest) (λ _. rest) (λ _. rest) n.1 (behind Comma n.1) _ (mark_leads limit Comma rest n.1) (λ b _. refl))))

  gate_leads : (op : Op) (x : Symbol) (rest : Stack) (ts : List Terminal) → Leads limit (λ (r : Rest PartTree). r.1) (part (Gate op) (x ∷ rest)) (λ _. x ∷ rest) ts (gate_at limit op ts)
  unfolding gate_at
  gate_leads op x rest ts =
      let last : Stack = mark Close ∷ x ∷ rest in
      chain limit (λ (n : Rest (List ℕ)). n.1) (λ (r : Rest PartTree). r.1) (part (Gate op) (x ∷ rest)) (λ _. connections op last) (λ _. x ∷ rest) ts (driven_at ts) _ (driven_leads (connections op last) ts)
      (λ n _. chain limit (λ (r : Rest PartTree). r.1) (λ (r : Rest PartTree). r.1) (connections op last) (λ _. last) (λ _. x ∷ rest) n.1 (connections_at limit op n.0 n.1) _ (connections_lead op n.0 (mark Close) (x ∷ rest) n.1)
      (λ c _. chain limit (λ us. us) (λ (r : Rest PartTree). r.1) last (λ _. x ∷ rest) (λ _. x ∷ rest) c.1 (behind Close c.1) _ (mark_leads limit Close (x ∷ rest) c.1) (λ d _. refl)))

  part_leads : (kind : Kind) (x : Symbol) (rest : Stack) (ts : List Terminal) → Leads limit (λ (r : Rest PartTree). r.1) (part kind (x ∷ rest)) (λ _. x ∷ rest) ts (part_at limit kind ts)
  part_leads (Declaration d) x rest ts =
      chain limit (λ (n : Rest (List ℕ)). n.1) (λ (r : Rest PartTree). r.1) (name ∷ x ∷ rest) (λ _. x ∷ rest) (λ _. x ∷ rest) ts (name_at ts) _ (name_leads limit (x ∷ rest) ts) (λ n _. refl)
  part_leads Wire x rest ts = wire_leads x rest ts
  part_leads Assign x rest ts = assign_leads x rest ts
  part_leads (Gate op) x rest ts = gate_leads op x rest ts

  kind_leads : (rest : Stack) (ts : List Terminal) → item_next tt ts ≡ true → Leads limit (λ (k : Rest Kind). k.1) (items ∷ rest) (λ k. item k.0 rest) ts (kind_at ts)
  kind_leads rest [] e = absurd (both_ways false refl e)
  kind_leads rest (GateWord op ∷ ts) e = ap (λ stack. run limit stack ts) (part-append (Gate op) (parts (Gate op) ∷ mark Semicolon ∷ items ∷ []) rest)
  kind_leads rest (Fixed EndModule ∷ ts) e = absurd (both_ways false refl e)
  kind_leads rest (Fixed InputWord ∷ ts) e = wire_passed limit name (parts (Declaration Input) ∷ mark Semicolon ∷ items ∷ rest) ts
  kind_leads rest (Fixed OutputWord ∷ ts) e = wire_passed limit name (parts (Declaration Output) ∷ mark Semicolon ∷ items ∷ rest) ts
  kind_leads rest (_ ∷ ts) e = refl

  item_leads : (rest : Stack) (ts : List Terminal) → item_next tt ts ≡ true → Leads limit (λ (r : Rest (List PartTree)). r.1) (items ∷ rest) (λ _. items ∷ rest) ts (item_at limit ts)
  unfolding item_at
  item_leads rest ts e =
      chain limit (λ (k : Rest Kind). k.1) (λ (r : Rest (List PartTree)). r.1) (items ∷ rest) (λ k. item k.0 rest) (λ _. items ∷ rest) ts (kind_at ts) _ (kind_leads rest ts e)
      (λ k _. chain limit (λ (r : Rest (List PartTree)). r.1) (λ (r : Rest (List PartTree)). r.1) (item k.0 rest) (λ _. mark Semicolon ∷ items ∷ rest) (λ _. items ∷ rest) k.1 (listed_at (part_at limit k.0) k.1) _
      (list_leads limit (part_at limit k.0) (parts k.0) (part k.0 (parts k.0 ∷ [])) (part k.0) (λ t. refl) (λ stack. part-append k.0 (parts k.0 ∷ []) stack) (part_repeats limit k.0) (part_leads k.0) (mark Semicolon) (items ∷ rest) k.1)
      (λ ps _. chain limit (λ us. us) (λ (r : Rest (List PartTree)). r.1) (mark Semicolon ∷ items ∷ rest) (λ _. items ∷ rest) (λ _. items ∷ rest) ps.1 (behind Semicolon ps.1) _ (mark_leads limit Semicolon (items ∷ rest) ps.1) (λ us _. refl)))

  one_item_leads : (rest : Stack) (s : Unit {0}) (ts : List Terminal) → item_next s ts ≡ true → Leads limit (λ (r : Rest (List PartTree × Unit {0})). r.1) (items ∷ rest) (λ _. items ∷ rest) ts (one_item limit s ts)
  one_item_leads rest s ts e =
      chain limit (λ (r : Rest (List PartTree)). r.1) (λ (r : Rest (List PartTree × Unit {0})). r.1) (items ∷ rest) (λ _. items ∷ rest) (λ _. items ∷ rest) ts (item_at limit ts) _ (item_leads rest ts e) (λ r _. refl)

  end_leads : (rest : Stack) (ts : List Terminal) → item_next tt ts ≡ false → Leads limit (λ us. us) (items ∷ rest) (λ _. rest) ts (behind EndModule ts)
  end_leads rest [] e = (Other, refl)
  end_leads rest (Fixed EndModule ∷ ts) e = refl
  end_leads rest (_ ∷ ts) e = absurd (both_ways true e refl)

  -- headers

  abbrev further : Option Direction → Symbol
  further None = plain_ports
  further (Some d) = directed_ports

  abbrev one_more : Option Direction → Symbol
  one_more None = name
  one_more (Some d) = port

  abbrev ports_from : Symbol → Stack → Option Direction → List Terminal → Stack
  ports_from x rest d ts = cond (next_is Comma ts) (further d ∷ x ∷ rest) (x ∷ rest)

  further_waits : (d : Option Direction) (t : Terminal) → reply (further d) t ≡ at_comma (one_more d ∷ further d ∷ []) t
  further_waits None t = refl
  further_waits (Some d) t = refl

  ports_settle : (x : Symbol) (rest : Stack) (d : Option Direction) (ts : List Terminal) → run limit (further d ∷ x ∷ rest) ts ≡ run limit (ports_from x rest d ts) ts
  ports_settle x rest d ts = comma_settles limit (further d) (one_more d ∷ further d ∷ []) x rest ts (further_waits d)

  directed_leads : (d : Direction) (x : Symbol) (rest : Stack) (ts : List Terminal) → Leads limit (λ (p : Rest Port). p.1) (maybe_wire ∷ name ∷ directed_ports ∷ x ∷ rest) (λ p. ports_from x rest p.0.direction p.1) ts (port_behind d ts)
  directed_leads d x rest ts =
      from_here limit (λ (p : Rest Port). p.1) (maybe_wire ∷ name ∷ directed_ports ∷ x ∷ rest) (name ∷ directed_ports ∷ x ∷ rest) (λ p. ports_from x rest p.0.direction p.1) ts (past WireWord ts) (port_behind d ts) (wire_passed limit name (directed_ports ∷ x ∷ rest) ts)
      (chain limit (λ (n : Rest (List ℕ)). n.1) (λ (p : Rest Port). p.1) (name ∷ directed_ports ∷ x ∷ rest) (λ _. directed_ports ∷ x ∷ rest) (λ p. ports_from x rest p.0.direction p.1) (past WireWord ts) (name_at (past WireWord ts)) _ (name_leads limit (directed_ports ∷ x ∷ rest) (past WireWord ts))
      (λ n _. ports_settle x rest (Some d) n.1))

  first_port_leads : (rest : Stack) (ts : List Terminal) → next_is Close ts ≡ false → Leads limit (λ (p : Rest Port). p.1) (in_header ∷ rest) (λ p. ports_from (mark Close) rest p.0.direction p.1) ts (port_at true None ts)
  first_port_leads rest [] e = (Other, refl)
  first_port_leads rest (Name n ∷ ts) e = ports_settle (mark Close) rest None ts
  first_port_leads rest (Fixed Close ∷ ts) e = absurd (both_ways true e refl)
  first_port_leads rest (Fixed InputWord ∷ ts) e = directed_leads Input (mark Close) rest ts
  first_port_leads rest (Fixed OutputWord ∷ ts) e = directed_leads Output (mark Close) rest ts
  first_port_leads rest (_ ∷ ts) e = refl

  port_leads : (d : Option Direction) (x : Symbol) (rest : Stack) (ts : List Terminal) → Leads limit (λ (p : Rest Port). p.1) (one_more d ∷ further d ∷ x ∷ rest) (λ p. ports_from x rest p.0.direction p.1) ts (port_at (is_some d) d ts)
  port_leads None x rest [] = (Other, refl)
  port_leads None x rest (Name n ∷ ts) = ports_settle x rest None ts
  port_leads None x rest (_ ∷ ts) = refl
  port_leads (Some d) x rest [] = (Other, refl)
  port_leads (Some d) x rest (Name n ∷ ts) = ports_settle x rest (Some d) ts
  port_leads (Some d) x rest (Fixed InputWord ∷ ts) = directed_leads Input x rest ts
  port_leads (Some d) x rest (Fixed OutputWord ∷ ts) = directed_leads Output x rest ts
  port_leads (Some d) x rest (_ ∷ ts) = refl

  comma_port_leads : (x : Symbol) (rest : Stack) (d : Option Direction) (ts us : List Terminal) → ts ≡ Fixed Comma ∷ us →
      Leads limit (λ (p : Rest (Port × Option Direction)). p.1) (ports_from x rest d ts) (λ p. ports_from x rest p.0.1 p.1) ts (comma_port d ts)
  comma_port_leads x rest d ts us e =
      subst (λ (vs : List Terminal). Leads limit (λ (p : Rest (Port × Option Direction)). p.1) (ports_from x rest d vs) (λ p. ports_from x rest p.0.1 p.1) vs (comma_port d vs)) (sym e)
      (from_here limit (λ (p : Rest (Port × Option Direction)). p.1) (further d ∷ x ∷ rest) (one_more d ∷ further d ∷ x ∷ rest) (λ p. ports_from x rest p.0.1 p.1) (Fixed Comma ∷ us) us (comma_port d (Fixed Comma ∷ us))
      (comma_taken limit (further d) (one_more d ∷ further d ∷ []) (x ∷ rest) us (further_waits d))
      (chain limit (λ (p : Rest Port). p.1) (λ (p : Rest (Port × Option Direction)). p.1) (one_more d ∷ further d ∷ x ∷ rest) (λ p. ports_from x rest p.0.direction p.1) (λ p. ports_from x rest p.0.1 p.1) us (port_at (is_some d) d us) _ (port_leads d x rest us) (λ p _. refl)))

  ports_lead : (rest : Stack) (ts : List Terminal) → next_is Close ts ≡ false → Leads limit (λ (r : Rest (List Port)). r.1) (in_header ∷ rest) (λ _. mark Close ∷ rest) ts (ports_at ts)
  unfolding ports_at repeated
  ports_lead rest ts h =
      chain limit (λ (p : Rest Port). p.1) (λ (r : Rest (List Port)). r.1) (in_header ∷ rest) (λ p. ports_from (mark Close) rest p.0.direction p.1) (λ _. mark Close ∷ rest) ts (port_at true None ts) _ (first_port_leads rest ts h)
      (λ p _. chain limit (λ (r : Rest (List Port × Option Direction)). r.1) (λ (r : Rest (List Port)). r.1) (ports_from (mark Close) rest p.0.direction p.1) (λ r. ports_from (mark Close) rest r.0.1 r.1) (λ _. mark Close ∷ rest) p.1
      (ahead_of (p.0 ∷ []) (repeat_within port_next comma_port (length p.1) p.0.direction p.1)) _
      (ahead_leads limit (ports_from (mark Close) rest p.0.direction p.1) (ports_from (mark Close) rest) (p.0 ∷ []) p.1 (repeat_within port_next comma_port (length p.1) p.0.direction p.1)
      (repeat_leads limit port_next comma_port (ports_from (mark Close) rest) (λ d us goes. let c = mark_front limit Comma us goes in comma_port_leads (mark Close) rest d us c.0 c.1) (length p.1) p.0.direction p.1))
      (λ r e.
      let stops = ahead_ends port_next (p.0 ∷ []) (repeat_within port_next comma_port (length p.1) p.0.direction p.1) r
      (λ z f. repeat_ends port_next comma_port ports_repeat (length p.1) p.0.direction p.1 z (omega arith) f) e in
      ap (λ b. run limit (cond b (further r.0.1 ∷ mark Close ∷ rest) (mark Close ∷ rest)) r.1) stops))

  abbrev inner : Reader (List Port)
  inner a = cond (next_is Close a) (behind Close a >>= λ r. let x : Rest (List Port) = ([], r) in Ok x) (ports_at a >>= λ ps. behind Close ps.1 >>= λ r. let x : Rest (List Port) = (ps.0, r) in Ok x)

  closed_leads : (rest : Stack) (ts us : List Terminal) → ts ≡ Fixed Close ∷ us → Leads limit (λ (r : Rest (List Port)). r.1) (in_header ∷ rest) (λ _. rest) ts (behind Close ts >>= λ r. let x : Rest (List Port) = ([], r) in Ok x)
  closed_leads rest ts us e = subst (λ (vs : List Terminal). Leads limit (λ (r : Rest (List Port)). r.1) (in_header ∷ rest) (λ _. rest) vs (behind Close vs >>= λ r. let x : Rest (List Port) = ([], r) in Ok x)) (sym e) refl

  inner_leads : (rest : Stack) (ts : List Terminal) → Leads limit (λ (r : Rest (List Port)). r.1) (in_header ∷ rest) (λ _. rest) ts (inner ts)
  inner_leads rest ts =
      either_leads limit (λ (r : Rest (List Port)). r.1) (in_header ∷ rest) (λ _. rest) ts (next_is Close ts) _ _
      (λ yes. let c = mark_front limit Close ts yes in closed_leads rest ts c.0 c.1)
      (λ other. chain limit (λ (r : Rest (List Port)). r.1) (λ (r : Rest (List Port)). r.1) (in_header ∷ rest) (λ _. mark Close ∷ rest) (λ _. rest) ts (ports_at ts) _ (ports_lead rest ts other)
      (λ ps _. chain limit (λ us. us) (λ (r : Rest (List Port)). r.1) (mark Close ∷ rest) (λ _. rest) (λ _. rest) ps.1 (behind Close ps.1) _ (mark_leads limit Close rest ps.1) (λ us _. refl)))

  header_passed : (x : Symbol) (rest : Stack) (ts : List Terminal) → next_is Open ts ≡ false → run limit (header ∷ x ∷ rest) ts ≡ run limit (x ∷ rest) ts
  header_passed x rest (Fixed Open ∷ ts) e = absurd (both_ways true e refl)
  header_passed x rest _ e = refl

  opened_leads : (rest : Stack) (ts us : List Terminal) → ts ≡ Fixed Open ∷ us → Leads limit (λ (r : Rest (List Port)). r.1) (header ∷ rest) (λ _. rest) ts (behind Open ts >>= inner)
  opened_leads rest ts us e =
      subst (λ (vs : List Terminal). Leads limit (λ (r : Rest (List Port)). r.1) (header ∷ rest) (λ _. rest) vs (behind Open vs >>= inner)) (sym e)
      (from_here limit (λ (r : Rest (List Port)). r.1) (header ∷ rest) (in_header ∷ rest) (λ _. rest) (Fixed Open ∷ us) us (inner us) refl (inner_leads rest us))

  header_leads : (x : Symbol) (rest : Stack) (ts : List Terminal) → Leads limit (λ (r : Rest (List Port)). r.1) (header ∷ x ∷ rest) (λ _. x ∷ rest) ts (header_at ts)
  unfolding header_at
  header_leads x rest ts =
      either_leads limit (λ (r : Rest (List Port)). r.1) (header ∷ x ∷ rest) (λ _. x ∷ rest) ts (next_is Open ts) _ _
      (λ yes. let c = mark_front limit Open ts yes in opened_leads (x ∷ rest) ts c.0 c.1)
      (λ other. header_passed x rest ts other)

  at_end_leads : (ts : List Terminal) → Leads limit (λ us. us) [] (λ _. []) ts (at_end ts)
  at_end_leads [] = refl
  at_end_leads (t ∷ ts) = refl

  -- a module
  pub module_leads : (ts : List Terminal) → Leads limit (λ (m : Rest ModuleTree). m.1) start (λ _. []) ts (module_at limit ts)
  unfolding module_at repeated
  module_leads ts =
      chain limit (λ us. us) (λ (m : Rest ModuleTree). m.1) start (λ _. name ∷ header ∷ mark Semicolon ∷ items ∷ []) (λ _. []) ts (behind ModuleWord ts) _ (mark_leads limit ModuleWord (name ∷ header ∷ mark Semicolon ∷ items ∷ []) ts)
      (λ a _. chain limit (λ (n : Rest (List ℕ)). n.1) (λ (m : Rest ModuleTree). m.1) (name ∷ header ∷ mark Semicolon ∷ items ∷ []) (λ _. header ∷ mark Semicolon ∷ items ∷ []) (λ _. []) a (name_at a) _ (name_leads limit (header ∷ mark Semicolon ∷ items ∷ []) a)
      (λ n _. chain limit (λ (r : Rest (List Port)). r.1) (λ (m : Rest ModuleTree). m.1) (header ∷ mark Semicolon ∷ items ∷ []) (λ _. mark Semicolon ∷ items ∷ []) (λ _. []) n.1 (header_at n.1) _ (header_leads (mark Semicolon) (items ∷ []) n.1)
      (λ h _. chain limit (λ us. us) (λ (m : Rest ModuleTree). m.1) (mark Semicolon ∷ items ∷ []) (λ _. items ∷ []) (λ _. []) h.1 (behind Semicolon h.1) _ (mark_leads limit Semicolon (items ∷ []) h.1)
      (λ b _. chain limit (λ (r : Rest (List (List PartTree) × Unit {0})). r.1) (λ (m : Rest ModuleTree). m.1) (items ∷ []) (λ _. items ∷ []) (λ _. []) b (repeat_within item_next (one_item limit) (length b) tt b) _
      (repeat_leads limit item_next (one_item limit) (λ s us. items ∷ []) (one_item_leads []) (length b) tt b)
      (λ s e. chain limit (λ us. us) (λ (m : Rest ModuleTree). m.1) (items ∷ []) (λ _. []) (λ _. []) s.1 (behind EndModule s.1) _
      (end_leads [] s.1 (repeat_ends item_next (one_item limit) (items_repeat limit) (length b) tt b s (omega arith) e))
      (λ c _. chain limit (λ us. us) (λ (m : Rest ModuleTree). m.1) [] (λ _. []) (λ _. []) c (at_end c) _ (at_end_leads c) (λ d _. refl)))))))
