-- Which terminal may come next, told by what is still to come. What is to come is a list of symbols: each
-- of them takes a terminal and leaves others in its place, is passed over, or is stuck. Here is how such a
-- list goes through terminals.
use Rattle.std.proofs.Common.{◌≡◌, ℕ, suc, true, false, cond, List, [], ◌∷◌, ◌++◌, length, Option, Some, None, Result, Ok, Err, refl, sym, ap, subst, ◌∙◌, ⊎_elim}
use Rattle.std.specs.Prelude.{nat_eq, nat_lt, is_ok}
use Rattle.std.proofs.lemmas.Bool.{both_ways, cases_Bool}
use Rattle.std.proofs.lemmas.Bool.Decides.{eqb_tells}
use Rattle.bx_logic.specs.declared.op.Op.{Op}
use Rattle.bx_logic.specs.declared.op.Op.TheVariants.{Buf, Not}
use Rattle.bx_syntax.specs.declared.terminal.Terminal.{Terminal}
use Rattle.bx_syntax.specs.declared.terminal.Terminal.TheVariants.{Fixed, GateWord, Name, Bit}
use Rattle.bx_syntax.specs.declared.terminal.Mark.{Mark}
use Rattle.bx_syntax.specs.declared.terminal.Mark.TheVariants.{Module as ModuleWord, EndModule, Input as InputWord, Output as OutputWord, Wire as WireWord, Open, Close, Comma, Semicolon, Equals, Tilde}
use Rattle.bx_syntax.specs.declared.stop.Stop.{Stop}
use Rattle.bx_syntax.specs.declared.stop.Stop.TheVariants.{Bad, Deep}
use Rattle.bx_syntax.specs.declared.stop.Wanted.{Wanted}
use Rattle.bx_syntax.specs.declared.stop.Wanted.TheVariants.{Item, Primary, End, Other}
use Rattle.bx_syntax.specs.declared.tree.Operator.{Operator}
use Rattle.bx_syntax.specs.declared.part.Kind.{Kind}
use Rattle.bx_syntax.specs.declared.part.Kind.TheVariants.{Declaration, Wire, Assign, Gate}
use Rattle.bx_syntax.specs.ReadsExpressions.{◌>>=◌, stops, behind, number, operator_of}
use Rattle.bx_syntax.specs.ReadsModules.{next_is, name_at, past, past_name, kind_of}
use Rattle.bx_syntax.proofs.ReadsExpressions.{behind_is}

pub data Symbol : Type 0 where
  -- a mark
  mark : Mark → Symbol
  -- `wire`, or nothing
  maybe_wire : Symbol
  -- a name, and a name or nothing
  name : Symbol
  label : Symbol
  -- a header or nothing, and what stands behind its parenthesis
  header : Symbol
  in_header : Symbol
  -- further ports, behind one without a direction and behind one with; a port behind the latter
  plain_ports : Symbol
  directed_ports : Symbol
  port : Symbol
  -- items and `endmodule`; further parts of a kind; what drives a wire, or nothing
  items : Symbol
  parts : Kind → Symbol
  driver : Symbol
  -- a primary that stands inside so many others, and operators with primaries behind one
  primary : ℕ → Symbol
  operators : ℕ → Symbol
  -- further arguments; the names and the expression of a `buf` or `not` behind the first; the same behind a name
  arguments : Symbol
  few : Symbol
  behind_name : Symbol

abbrev pub Stack : Type 0
Stack = List Symbol

-- what a symbol does at a terminal
pub data Reply : Type 0 where
  takes : Stack → Reply
  nests : ℕ → Stack → Reply
  passed : Reply
  stuck : Wanted → Reply

abbrev pub connections : Op → Stack → Stack
connections Buf rest = few ∷ rest
connections Not rest = few ∷ rest
connections _ rest = primary 0 ∷ operators 0 ∷ arguments ∷ rest

-- a part of a kind, and what comes behind it
abbrev pub part : Kind → Stack → Stack
part (Declaration d) rest = name ∷ rest
part Wire rest = name ∷ driver ∷ rest
part Assign rest = name ∷ mark Equals ∷ primary 0 ∷ operators 0 ∷ rest
part (Gate op) rest = label ∷ mark Open ∷ name ∷ mark Comma ∷ connections op (mark Close ∷ rest)

-- what may stand before the first part
abbrev pub head : Kind → Stack → Stack
head (Declaration d) rest = maybe_wire ∷ rest
head _ rest = rest

-- the parts of an item, and the items behind it
abbrev pub item : Kind → Stack → Stack
item kind rest = part kind (parts kind ∷ mark Semicolon ∷ items ∷ rest)

abbrev pub at_item : Option Kind → Reply
at_item (Some kind) = takes (head kind (item kind []))
at_item None = stuck Item

abbrev pub at_mark : Mark → Mark → Reply → Reply
at_mark s r other = cond (nat_eq (number r) (number s)) (takes []) other

abbrev pub at_comma : Stack → Terminal → Reply
at_comma more (Fixed Comma) = takes more
at_comma more _ = passed

abbrev pub at_operator : ℕ → Option Operator → Reply
at_operator n (Some o) = takes (primary n ∷ operators n ∷ [])
at_operator n None = passed

abbrev pub port_with_word : Stack
port_with_word = maybe_wire ∷ name ∷ []

-- a module
abbrev pub start : Stack
start = mark ModuleWord ∷ name ∷ header ∷ mark Semicolon ∷ items ∷ []

abbrev pub reply : Symbol → Terminal → Reply
reply (mark s) (Fixed r) = at_mark s r (stuck Other)
reply (mark s) _ = stuck Other
reply maybe_wire (Fixed WireWord) = takes []
reply maybe_wire _ = passed
reply name (Name n) = takes []
reply name _ = stuck Other
reply label (Name n) = takes []
reply label _ = passed
reply header (Fixed Open) = takes (in_header ∷ [])
reply header _ = passed
reply in_header (Fixed Close) = takes []
reply in_header (Fixed InputWord) = takes (maybe_wire ∷ name ∷ directed_ports ∷ mark Close ∷ [])
reply in_header (Fixed OutputWord) = takes (maybe_wire ∷ name ∷ directed_ports ∷ mark Close ∷ [])
reply in_header (Name n) = takes (plain_ports ∷ mark Close ∷ [])
reply in_header _ = stuck Other
reply plain_ports t = at_comma (name ∷ plain_ports ∷ []) t
reply directed_ports t = at_comma (port ∷ directed_ports ∷ []) t
reply port (Name n) = takes []
reply port (Fixed InputWord) = takes port_with_word
reply port (Fixed OutputWord) = takes port_with_word
reply port _ = stuck Other
reply items (Fixed EndModule) = takes []
reply items (Fixed s) = at_item (kind_of s)
reply items (GateWord op) = takes (item (Gate op) [])
reply items _ = stuck Item
reply (parts kind) t = at_comma (part kind (parts kind ∷ [])) t
reply driver (Fixed Equals) = takes (primary 0 ∷ operators 0 ∷ [])
reply driver _ = passed
reply (primary n) (Name _) = takes []
reply (primary n) (Bit _) = takes []
reply (primary n) (Fixed Tilde) = nests n (primary (suc n) ∷ [])
reply (primary n) (Fixed Open) = nests n (primary (suc n) ∷ operators (suc n) ∷ mark Close ∷ [])
reply (primary n) _ = stuck Primary
reply (operators n) (Fixed s) = at_operator n (operator_of s)
reply (operators n) _ = passed
reply arguments t = at_comma (primary 0 ∷ operators 0 ∷ arguments ∷ []) t
reply few (Name n) = takes (behind_name ∷ [])
reply few (Bit _) = takes (operators 0 ∷ [])
reply few (Fixed Tilde) = nests 0 (primary 1 ∷ operators 0 ∷ [])
reply few (Fixed Open) = nests 0 (primary 1 ∷ operators 1 ∷ mark Close ∷ operators 0 ∷ [])
reply few _ = stuck Primary
reply behind_name (Fixed Comma) = takes (few ∷ [])
reply behind_name (Fixed s) = at_operator 0 (operator_of s)
reply behind_name _ = passed

-- what a stack does at a terminal
pub data Move : Type 0 where
  goes : Stack → Move
  bad : Wanted → Move
  deep : Move

-- how a stack ends behind terminals: with nothing to come, with something to come, or stopped
pub data Run : Type 0 where
  done : Run
  unfinished : Run
  stopped : Stop → Run

abbrev pub end_run : Stack → Run
end_run [] = done
end_run (x ∷ rest) = unfinished

-- a reader stops as the stack does; at the end of the terminals nothing is said of what is wanted
abbrev pub Agrees : Stop → Run → Type 0
Agrees e done = ⊥
Agrees e unfinished = (w : Wanted) × (e ≡ Bad 0 w)
Agrees e (stopped f) = e ≡ f

module _ (limit : ℕ) where
  abbrev pub answer : Reply → Stack → Move → Move
  answer (takes more) rest other = goes (more ++ rest)
  answer (nests n more) rest other = cond (nat_lt n limit) (goes (more ++ rest)) deep
  answer passed rest other = other
  answer (stuck wanted) rest other = bad wanted

  abbrev pub move : Stack → Terminal → Move
  move [] t = bad End
  move (x ∷ rest) t = answer (reply x t) rest (move rest t)

  abbrev pub move_run : Move → (Stack → Run) → List Terminal → Run
  move_run (goes next) onward ts = onward next
  move_run (bad wanted) onward ts = stopped (Bad (length ts) wanted)
  move_run deep onward ts = stopped (Deep (length ts))

  abbrev pub run : Stack → List Terminal → Run
  run stack [] = end_run stack
  run stack (t ∷ ts) = move_run (move stack t) (λ next. run next ts) (t ∷ ts)

  -- what a reader answers is where the stack goes, or stops
  abbrev pub Leads : {X : Type 0} → (X → List Terminal) → Stack → (X → Stack) → List Terminal → Result X Stop → Type 0
  Leads rest from to ts (Ok x) = run from ts ≡ run (to x) (rest x)
  Leads rest from to ts (Err e) = Agrees e (run from ts)

  pub from_here : {X : Type 0} (rest : X → List Terminal) (from middle : Stack) (to : X → Stack) (ts us : List Terminal) (r : Result X Stop) → run from ts ≡ run middle us → Leads rest middle to us r → Leads rest from to ts r
  from_here rest from middle to ts us (Ok x) e h = e ∙ h
  from_here rest from middle to ts us (Err w) e h = subst (Agrees w) (sym e) h

  pub chain : {X Y : Type 0} (rest : X → List Terminal) (last : Y → List Terminal) (from : Stack) (middle : X → Stack) (to : Y → Stack) (ts : List Terminal) (r : Result X Stop) (f : X → Result Y Stop) →
      Leads rest from middle ts r → ((x : X) → r ≡ Ok x → Leads last (middle x) to (rest x) (f x)) → Leads last from to ts (r >>= f)
  chain rest last from middle to ts (Ok x) f h g = from_here last from (middle x) to ts (rest x) (f x) h (g x refl)
  chain rest last from middle to ts (Err w) f h g = h

  -- marks and names

  run_mark : (s r : Mark) (rest : Stack) (ts : List Terminal) → nat_eq (number r) (number s) ≡ true → run (mark s ∷ rest) (Fixed r ∷ ts) ≡ run rest ts
  run_mark s r rest ts e = rw e refl

  run_other : (s r : Mark) (rest : Stack) (ts : List Terminal) → nat_eq (number r) (number s) ≡ false → run (mark s ∷ rest) (Fixed r ∷ ts) ≡ stopped (Bad (suc (length ts)) Other)
  run_other s r rest ts e = rw e refl

  behind_yes : (s r : Mark) (ts : List Terminal) → nat_eq (number r) (number s) ≡ true → behind s (Fixed r ∷ ts) ≡ Ok ts
  behind_yes s r ts e = rw e refl

  behind_no : (s r : Mark) (ts : List Terminal) → nat_eq (number r) (number s) ≡ false → behind s (Fixed r ∷ ts) ≡ stops Other (Fixed r ∷ ts)
  behind_no s r ts e = rw e refl

  pub mark_leads : (s : Mark) (rest : Stack) (ts : List Terminal) → Leads (λ us. us) (mark s ∷ rest) (λ _. rest) ts (behind s ts)
  mark_leads s rest [] = (Other, refl)
  mark_leads s rest (Fixed r ∷ ts) =
      ⊎_elim
      (λ same. subst (λ (o : Result (List Terminal) Stop). Leads (λ us. us) (mark s ∷ rest) (λ _. rest) (Fixed r ∷ ts) o) (sym (behind_yes s r ts same.0)) (run_mark s r rest ts same.0))
      (λ other. subst (λ (o : Result (List Terminal) Stop). Leads (λ us. us) (mark s ∷ rest) (λ _. rest) (Fixed r ∷ ts) o) (sym (behind_no s r ts other.0)) (subst (Agrees (Bad (suc (length ts)) Other)) (sym (run_other s r rest ts other.0)) refl))
      (eqb_tells (number r) (number s))
  mark_leads s rest (_ ∷ ts) = refl

  pub name_leads : (rest : Stack) (ts : List Terminal) → Leads (λ (x : List ℕ × List Terminal). x.1) (name ∷ rest) (λ _. rest) ts (name_at ts)
  name_leads rest [] = (Other, refl)
  name_leads rest (Name n ∷ ts) = refl
  name_leads rest (_ ∷ ts) = refl

  -- what may be left out

  pub label_passed : (x : Symbol) (rest : Stack) (ts : List Terminal) → run (label ∷ x ∷ rest) ts ≡ run (x ∷ rest) (past_name ts)
  label_passed x rest (Name n ∷ ts) = refl
  label_passed x rest _ = refl

  pub wire_passed : (x : Symbol) (rest : Stack) (ts : List Terminal) → run (maybe_wire ∷ x ∷ rest) ts ≡ run (x ∷ rest) (past WireWord ts)
  wire_passed x rest (Fixed WireWord ∷ ts) = refl
  wire_passed x rest _ = refl

  -- behind a comma

  pub mark_front : (s : Mark) (ts : List Terminal) → next_is s ts ≡ true → (rest : List Terminal) × (ts ≡ Fixed s ∷ rest)
  mark_front s ts e = by_rest (behind s ts) refl e where
    by_rest : (o : Result (List Terminal) Stop) → behind s ts ≡ o → is_ok o ≡ true → (rest : List Terminal) × (ts ≡ Fixed s ∷ rest)
    by_rest (Ok rest) same e = (rest, behind_is s ts rest same)
    by_rest (Err w) same e = absurd (both_ways false refl e)

  -- a symbol that waits for a comma takes it, and is passed at anything else
  pub comma_taken : (x : Symbol) (more rest : Stack) (ts : List Terminal) → ((t : Terminal) → reply x t ≡ at_comma more t) → run (x ∷ rest) (Fixed Comma ∷ ts) ≡ run (more ++ rest) ts
  comma_taken x more rest ts h = rw (h (Fixed Comma)) refl

  pub comma_passed : (x : Symbol) (more : Stack) (y : Symbol) (rest : Stack) (ts : List Terminal) → ((t : Terminal) → reply x t ≡ at_comma more t) → next_is Comma ts ≡ false → run (x ∷ y ∷ rest) ts ≡ run (y ∷ rest) ts
  comma_passed x more y rest [] h e = refl
  comma_passed x more y rest (Fixed Comma ∷ ts) h e = absurd (both_ways true e refl)
  comma_passed x more y rest (t ∷ ts) h e = rw (h t) refl

  pub comma_settles : (x : Symbol) (more : Stack) (y : Symbol) (rest : Stack) (ts : List Terminal) → ((t : Terminal) → reply x t ≡ at_comma more t) → run (x ∷ y ∷ rest) ts ≡ run (cond (next_is Comma ts) (x ∷ y ∷ rest) (y ∷ rest)) ts
  comma_settles x more y rest ts h =
      ⊎_elim
      (λ e. ap (λ b. run (cond b (x ∷ y ∷ rest) (y ∷ rest)) ts) (sym e))
      (λ e. comma_passed x more y rest ts h e ∙ ap (λ b. run (cond b (x ∷ y ∷ rest) (y ∷ rest)) ts) (sym e))
      (cases_Bool (next_is Comma ts))
