-- Whatever is to come can come, and what may come next is told by it alone.
use Rattle.std.proofs.Common.{◌≡◌, ◌≢◌, ℕ, Bool, true, false, cond, List, [], ◌∷◌, ◌++◌, Option, Some, None, refl, sym, ap, subst, ◌∙◌, ◌⊎◌, inl, inr, eq-eqb}
use Rattle.std.specs.Prelude.{nat_eq, nat_lt}
use Rattle.bx_logic.specs.declared.op.Op.TheVariants.{Buf, Not}
use Rattle.bx_syntax.specs.declared.terminal.Terminal.{Terminal}
use Rattle.bx_syntax.specs.declared.terminal.Terminal.TheVariants.{Fixed, GateWord, Name, Bit}
use Rattle.bx_syntax.specs.declared.terminal.Mark.{Mark}
use Rattle.bx_syntax.specs.declared.terminal.Mark.TheVariants.{EndModule, Input as InputWord, Output as OutputWord, Wire as WireWord, Assign as AssignWord, Open, Close, Comma, Semicolon, Equals, Tilde}
use Rattle.bx_syntax.specs.declared.stop.Wanted.{Wanted}
use Rattle.bx_syntax.specs.declared.stop.Wanted.TheVariants.{Item, Primary, Other}
use Rattle.bx_syntax.specs.declared.tree.Operator.{Operator}
use Rattle.bx_syntax.specs.declared.part.Kind.{Kind}
use Rattle.bx_syntax.specs.declared.part.Kind.TheVariants.{Declaration, Wire, Assign, Gate}
use Rattle.bx_syntax.specs.ReadsExpressions.{number, operator_of}
use Rattle.bx_syntax.specs.ReadsModules.{kind_of}
use Rattle.bx_syntax.proofs.Stacks.{Symbol, mark, maybe_wire, name, label, header, in_header, plain_ports, directed_ports, port, items, parts, driver, primary, operators, arguments, few, behind_name, Stack, part, item, at_comma, at_item, at_operator, reply, Reply, takes, nests, passed, stuck, Move, goes, deep, done, answer, move, run}
use Rattle.bx_syntax.proofs.Leading.{part-append}

-- What comes first, but for what may be left out, is `)` or `;`.
abbrev pub IsClosed : Stack → Type 0
IsClosed [] = ⊥
IsClosed (mark s ∷ rest) = (s ≡ Close) ⊎ (s ≡ Semicolon)
IsClosed (header ∷ rest) = IsClosed rest
IsClosed (plain_ports ∷ rest) = IsClosed rest
IsClosed (directed_ports ∷ rest) = IsClosed rest
IsClosed (parts kind ∷ rest) = IsClosed rest
IsClosed (driver ∷ rest) = IsClosed rest
IsClosed (operators n ∷ rest) = IsClosed rest
IsClosed (arguments ∷ rest) = IsClosed rest
IsClosed (behind_name ∷ rest) = IsClosed rest
IsClosed (x ∷ rest) = ⊥

abbrev pub IsNamed : Stack → Type 0
IsNamed (name ∷ rest) = Unit {0}
IsNamed _ = ⊥

abbrev pub IsOpened : Stack → Type 0
IsOpened (mark s ∷ rest) = s ≡ Open
IsOpened _ = ⊥

-- where a symbol may stand
abbrev pub Fits : Symbol → Stack → Type 0
Fits (mark s) rest = s ≢ AssignWord
Fits maybe_wire rest = IsNamed rest
Fits label rest = IsOpened rest
Fits name rest = Unit {0}
Fits in_header rest = Unit {0}
Fits port rest = Unit {0}
Fits items rest = Unit {0}
Fits (primary n) rest = Unit {0}
Fits _ rest = IsClosed rest

-- the stacks that come up
abbrev pub IsFine : Stack → Type 0
IsFine [] = Unit {0}
IsFine (x ∷ rest) = Fits x rest × IsFine rest

-- what may be left out, and what is wanted where a symbol is stuck
abbrev pub left_out : Symbol → Bool
left_out (mark s) = false
left_out name = false
left_out in_header = false
left_out port = false
left_out items = false
left_out (primary n) = false
left_out few = false
left_out _ = true

abbrev pub wanted_of : Symbol → Wanted
wanted_of items = Item
wanted_of (primary n) = Primary
wanted_of few = Primary
wanted_of _ = Other

-- what a reply says of the symbol, and of the stack that it leaves
abbrev pub Known : Symbol → Stack → Reply → Type 0
Known x rest (takes more) = IsFine (more ++ rest)
Known x rest (nests n more) = IsFine (more ++ rest)
Known x rest passed = left_out x ≡ true
Known x rest (stuck wanted) = (left_out x ≡ false) × (wanted ≡ wanted_of x)

part_fine : (kind : Kind) (rest : Stack) → IsClosed rest → IsFine rest → IsFine (part kind rest)
part_fine (Declaration d) rest c f = (tt, f)
part_fine Wire rest c f = (tt, (c, f))
part_fine Assign rest c f = (tt, ((λ e. cc), (tt, (c, f))))
part_fine (Gate Buf) rest c f = (refl, ((λ e. cc), (tt, ((λ e. cc), (inl refl, ((λ e. cc), f))))))
part_fine (Gate Not) rest c f = (refl, ((λ e. cc), (tt, ((λ e. cc), (inl refl, ((λ e. cc), f))))))
part_fine (Gate _) rest c f = (refl, ((λ e. cc), (tt, ((λ e. cc), (tt, (inl refl, (inl refl, ((λ e. cc), f))))))))

item_fine : (kind : Kind) (rest : Stack) → IsFine rest → IsFine (item kind [] ++ rest)
item_fine kind rest f =
    subst IsFine (sym (part-append kind (parts kind ∷ mark Semicolon ∷ items ∷ []) rest))
    (part_fine kind (parts kind ∷ mark Semicolon ∷ items ∷ rest) (inr refl) (inr refl, ((λ e. cc), (tt, f))))

at_item_known : (found : Option Kind) (rest : Stack) → IsFine rest → Known items rest (at_item found)
at_item_known None rest f = (refl, refl)
at_item_known (Some (Declaration d)) rest f = (tt, item_fine (Declaration d) rest f)
at_item_known (Some Wire) rest f = item_fine Wire rest f
at_item_known (Some Assign) rest f = item_fine Assign rest f
at_item_known (Some (Gate op)) rest f = item_fine (Gate op) rest f

at_mark_known : (s : Mark) (b : Bool) (rest : Stack) → IsFine rest → Known (mark s) rest (cond b (takes []) (stuck Other))
at_mark_known s true rest f = f
at_mark_known s false rest f = (refl, refl)

at_comma_known : (x : Symbol) (more rest : Stack) (t : Terminal) → left_out x ≡ true → IsFine (more ++ rest) → Known x rest (at_comma more t)
at_comma_known x more rest (Fixed Comma) e f = f
at_comma_known x more rest (Fixed _) e f = e
at_comma_known x more rest _ e f = e

at_operator_known : (x : Symbol) (n : ℕ) (found : Option Operator) (rest : Stack) → left_out x ≡ true → IsClosed rest → IsFine rest → Known x rest (at_operator n found)
at_operator_known x n None rest e c f = e
at_operator_known x n (Some o) rest e c f = (tt, (c, f))

pub reply_known : (x : Symbol) (rest : Stack) (t : Terminal) → Fits x rest → IsFine rest → Known x rest (reply x t)
reply_known (mark s) rest (Fixed r) c f = at_mark_known s (nat_eq (number r) (number s)) rest f
reply_known (mark s) rest _ c f = (refl, refl)
reply_known maybe_wire rest (Fixed WireWord) c f = f
reply_known maybe_wire rest (Fixed _) c f = refl
reply_known maybe_wire rest _ c f = refl
reply_known name rest (Name n) c f = f
reply_known name rest _ c f = (refl, refl)
reply_known label rest (Name n) c f = f
reply_known label rest _ c f = refl
reply_known header rest (Fixed Open) c f = (tt, f)
reply_known header rest (Fixed _) c f = refl
reply_known header rest _ c f = refl
reply_known in_header rest (Fixed Close) c f = f
reply_known in_header rest (Fixed InputWord) c f = (tt, (tt, (inl refl, ((λ e. cc), f))))
reply_known in_header rest (Fixed OutputWord) c f = (tt, (tt, (inl refl, ((λ e. cc), f))))
reply_known in_header rest (Fixed _) c f = (refl, refl)
reply_known in_header rest (Name n) c f = (inl refl, ((λ e. cc), f))
reply_known in_header rest _ c f = (refl, refl)
reply_known plain_ports rest t c f = at_comma_known plain_ports (name ∷ plain_ports ∷ []) rest t refl (tt, (c, f))
reply_known directed_ports rest t c f = at_comma_known directed_ports (port ∷ directed_ports ∷ []) rest t refl (tt, (c, f))
reply_known port rest (Name n) c f = f
reply_known port rest (Fixed InputWord) c f = (tt, (tt, f))
reply_known port rest (Fixed OutputWord) c f = (tt, (tt, f))
reply_known port rest (Fixed _) c f = (refl, refl)
reply_known port rest _ c f = (refl, refl)
reply_known items rest (Fixed EndModule) c f = f
reply_known items rest (Fixed InputWord) c f = at_item_known (kind_of InputWord) rest f
reply_known items rest (Fixed OutputWord) c f = at_item_known (kind_of OutputWord) rest f
reply_known items rest (Fixed WireWord) c f = at_item_known (kind_of WireWord) rest f
reply_known items rest (Fixed AssignWord) c f = at_item_known (kind_of AssignWord) rest f
reply_known items rest (Fixed _) c f = (refl, refl)
reply_known items rest (GateWord op) c f = item_fine (Gate op) rest f
reply_known items rest _ c f = (refl, refl)
reply_known (parts kind) rest t c f =
    at_comma_known (parts kind) (part kind (parts kind ∷ [])) rest t refl (subst IsFine (sym (part-append kind (parts kind ∷ []) rest)) (part_fine kind (parts kind ∷ rest) c (c, f)))
reply_known driver rest (Fixed Equals) c f = (tt, (c, f))
reply_known driver rest (Fixed _) c f = refl
reply_known driver rest _ c f = refl
reply_known (primary n) rest (Name _) c f = f
reply_known (primary n) rest (Bit _) c f = f
reply_known (primary n) rest (Fixed Tilde) c f = (tt, f)
reply_known (primary n) rest (Fixed Open) c f = (tt, (inl refl, ((λ e. cc), f)))
reply_known (primary n) rest (Fixed _) c f = (refl, refl)
reply_known (primary n) rest _ c f = (refl, refl)
reply_known (operators n) rest (Fixed s) c f = at_operator_known (operators n) n (operator_of s) rest refl c f
reply_known (operators n) rest _ c f = refl
reply_known arguments rest t c f = at_comma_known arguments (primary 0 ∷ operators 0 ∷ arguments ∷ []) rest t refl (tt, (c, (c, f)))
reply_known few rest (Name n) c f = (c, f)
reply_known few rest (Bit _) c f = (c, f)
reply_known few rest (Fixed Tilde) c f = (tt, (c, f))
reply_known few rest (Fixed Open) c f = (tt, (inl refl, ((λ e. cc), (c, f))))
reply_known few rest (Fixed _) c f = (refl, refl)
reply_known few rest _ c f = (refl, refl)
reply_known behind_name rest (Fixed Comma) c f = (c, f)
reply_known behind_name rest (Fixed s) c f = at_operator_known behind_name 0 (operator_of s) rest refl c f
reply_known behind_name rest _ c f = refl

-- a word for each symbol, and for what is to come

abbrev pub fill : Symbol → List Terminal → List Terminal
fill (mark s) ts = Fixed s ∷ ts
fill name ts = Name [] ∷ ts
fill in_header ts = Fixed Close ∷ ts
fill port ts = Name [] ∷ ts
fill items ts = Fixed EndModule ∷ ts
fill (primary n) ts = Bit false ∷ ts
fill few ts = Bit false ∷ ts
fill _ ts = ts

abbrev pub word : Stack → List Terminal
word [] = []
word (x ∷ rest) = fill x (word rest)

abbrev Closes : List Terminal → Type 0
Closes ts = (us : List Terminal) × ((ts ≡ Fixed Close ∷ us) ⊎ (ts ≡ Fixed Semicolon ∷ us))

closed_word : (rest : Stack) → IsClosed rest → Closes (word rest)
closed_word [] c = absurd c
closed_word (mark s ∷ rest) (inl e) = (word rest, inl (ap (λ r. Fixed r ∷ word rest) e))
closed_word (mark s ∷ rest) (inr e) = (word rest, inr (ap (λ r. Fixed r ∷ word rest) e))
closed_word (header ∷ rest) c = closed_word rest c
closed_word (plain_ports ∷ rest) c = closed_word rest c
closed_word (directed_ports ∷ rest) c = closed_word rest c
closed_word (parts kind ∷ rest) c = closed_word rest c
closed_word (driver ∷ rest) c = closed_word rest c
closed_word (operators n ∷ rest) c = closed_word rest c
closed_word (arguments ∷ rest) c = closed_word rest c
closed_word (behind_name ∷ rest) c = closed_word rest c
closed_word (_ ∷ rest) c = absurd c

same_next : {a b : Stack} → goes a ≡ goes b → a ≡ b
same_next e = cc

module _ (limit : ℕ) where
  passed_over : (x : Symbol) (rest : Stack) (t : Terminal) (us : List Terminal) → reply x t ≡ passed → run limit (x ∷ rest) (t ∷ us) ≡ run limit rest (t ∷ us)
  passed_over x rest t us e = rw e refl

  closed_over : (x : Symbol) (rest : Stack) → IsClosed rest → reply x (Fixed Close) ≡ passed → reply x (Fixed Semicolon) ≡ passed → run limit (x ∷ rest) (word rest) ≡ run limit rest (word rest)
  closed_over x rest c close semicolon = by_front (closed_word rest c).1 where
    by_front : (word rest ≡ Fixed Close ∷ (closed_word rest c).0) ⊎ (word rest ≡ Fixed Semicolon ∷ (closed_word rest c).0) → run limit (x ∷ rest) (word rest) ≡ run limit rest (word rest)
    by_front (inl e) = subst (λ (ts : List Terminal). run limit (x ∷ rest) ts ≡ run limit rest ts) (sym e) (passed_over x rest (Fixed Close) (closed_word rest c).0 close)
    by_front (inr e) = subst (λ (ts : List Terminal). run limit (x ∷ rest) ts ≡ run limit rest ts) (sym e) (passed_over x rest (Fixed Semicolon) (closed_word rest c).0 semicolon)

  mark_run : (s : Mark) (rest : Stack) (ts : List Terminal) → run limit (mark s ∷ rest) (Fixed s ∷ ts) ≡ run limit rest ts
  mark_run s rest ts = rw (eq-eqb (number s) (number s) refl) refl

  wire_run : (rest : Stack) → IsNamed rest → run limit (maybe_wire ∷ rest) (word rest) ≡ run limit rest (word rest)
  wire_run (name ∷ rest) c = refl
  wire_run _ c = absurd c

  label_run : (rest : Stack) → IsOpened rest → run limit (label ∷ rest) (word rest) ≡ run limit rest (word rest)
  label_run (mark s ∷ rest) c = refl
  label_run _ c = absurd c

  -- what is to come can come
  pub comes : (stack : Stack) → IsFine stack → run limit stack (word stack) ≡ done
  comes [] f = refl
  comes (mark s ∷ rest) f = mark_run s rest (word rest) ∙ comes rest f.1
  comes (maybe_wire ∷ rest) f = wire_run rest f.0 ∙ comes rest f.1
  comes (name ∷ rest) f = comes rest f.1
  comes (label ∷ rest) f = label_run rest f.0 ∙ comes rest f.1
  comes (in_header ∷ rest) f = comes rest f.1
  comes (port ∷ rest) f = comes rest f.1
  comes (items ∷ rest) f = comes rest f.1
  comes (primary n ∷ rest) f = comes rest f.1
  comes (few ∷ rest) f = closed_over (operators 0) rest f.0 refl refl ∙ comes rest f.1
  comes (x ∷ rest) f = closed_over x rest f.0 refl refl ∙ comes rest f.1

  -- a stack that goes on is one that comes up
  answer_fine : (x : Symbol) (r : Reply) (rest : Stack) (other : Move) (next : Stack) → Known x rest r → (other ≡ goes next → IsFine next) → answer limit r rest other ≡ goes next → IsFine next
  answer_fine x (takes more) rest other next f h e = subst IsFine (same_next e) f
  answer_fine x (nests n more) rest other next f h e = by_room (nat_lt n limit) e where
    by_room : (b : Bool) → cond b (goes (more ++ rest)) deep ≡ goes next → IsFine next
    by_room true e = subst IsFine (same_next e) f
    by_room false e = absurd (cc)
  answer_fine x passed rest other next f h e = h e
  answer_fine x (stuck wanted) rest other next f h e = absurd (cc)

  pub move_fine : (stack : Stack) (t : Terminal) (next : Stack) → IsFine stack → move limit stack t ≡ goes next → IsFine next
  move_fine [] t next f e = absurd (cc)
  move_fine (x ∷ rest) t next f e = answer_fine x (reply x t) rest (move limit rest t) next (reply_known x rest t f.0 f.1) (move_fine rest t next f.1) e
