-- The nets of expressions, one step at a time.
use Rattle.std.proofs.Common.{◌≡◌, ℕ, zero, suc, ◌+◌, ◌<◌, ◌≤◌, List, [], ◌∷◌, ◌++◌, length, length-append, append_assoc, get_or, take, drop, map, refl, sym, ap, ◌∙◌, arith, subst, Vec, Box, Global, Result, Ok, Err, OnOk, IfOk}
use Rattle.std.proofs.lemmas.List.{append-nil, length-map, take_more, take-append-drop}
use Rattle.bx_logic.specs.declared.op.Op.{Op}
use Rattle.bx_logic.specs.declared.memory.NoMemory.{NoMemory}
use Rattle.bx_logic.specs.declared.op.Op.TheVariants.{Not as NotGate}
use Rattle.bx_logic.specs.declared.driver.Driver.{Driver}
use Rattle.bx_logic.specs.declared.driver.Driver.TheVariants.{Constant, Gate}
use Rattle.bx_syntax.specs.declared.tree.Operator.{Operator}
use Rattle.bx_syntax.specs.declared.tree.Operand.{Operand}
use Rattle.bx_syntax.specs.declared.tree.Expr.{Expr, Not, Joined}
use Rattle.bx_syntax.specs.Trees.{Tree, net, bit, inverse, group, joined, Tail, done, link, tree, tail}
use Rattle.bx_syntax.proofs.ReadsExpressions.{row_tail-vec}
use Rattle.bx_verilog.specs.Formulas.{Text, Formula, named, constant, negation, pair, formula, grouped, operation}
use Rattle.bx_verilog.specs.Elaboration.{own, all_own, net_number, own_drivers, net_numbers, all_own_drivers}
use Rattle.bx_verilog.specs.Shown.{number_among}
use Rattle.bx_verilog.specs.Lowering.{IsLowered, AreLowered}
use Rattle.bx_verilog.proofs.OwnNets.{length-own_drivers, length-all_own_drivers, length-net_numbers}

-- How many drivers there are behind a formula's own.
pub lowered_length : (names : List Text) (before after : List Driver) (f : Formula) (place : ℕ) → IsLowered names before after f place → length after ≡ length before + own f
lowered_length names before after f place h =
    ap length h.drivers ∙ (length-append before (own_drivers (number_among names) (length names + length before) f) ∙ ap (λ n. length before + n) (length-own_drivers (number_among names) (length names + length before) f))

pub lowered_negation : (names : List Text) (before middle after : List Driver) (f : Formula) (place last : ℕ) → IsLowered names before middle f place → after ≡ middle ++ Gate NotGate (place ∷ []) ∷ [] → last ≡ length names + length middle →
    IsLowered names before after (negation f) last
lowered_negation names before middle after f place last h d n =
    let l = lowered_length names before middle f place h in
    record { drivers = simp (d, h.drivers, h.number, append_assoc); number = omega arith }

lowered_pair_at : (names : List Text) (before middle next after : List Driver) (o : Operator) (f g : Formula) (place other last first : ℕ) → first ≡ length names + length before + own f →
    IsLowered names before middle f place → next ≡ middle ++ own_drivers (number_among names) first g → other ≡ net_number (number_among names) first g → after ≡ next ++ Gate (operation o) (place ∷ other ∷ []) ∷ [] → last ≡ length names + length before + own f + own g →
    IsLowered names before after (pair o f g) last
lowered_pair_at names before middle next after o f g place other last first e h k m d n =
    record { drivers = simp (d, k, m, e, h.drivers, h.number, append_assoc); number = n }

pub lowered_pair : (names : List Text) (before middle next after : List Driver) (o : Operator) (f g : Formula) (place other last : ℕ) →
    IsLowered names before middle f place → IsLowered names middle next g other → after ≡ next ++ Gate (operation o) (place ∷ other ∷ []) ∷ [] → last ≡ length names + length next →
    IsLowered names before after (pair o f g) last
lowered_pair names before middle next after o f g place other last h k d n =
    let l = lowered_length names before middle f place h in
    let r = lowered_length names middle next g other k in
    let e : length names + length middle ≡ length names + length before + own f = omega arith in
    lowered_pair_at names before middle next after o f g place other last (length names + length middle) e h k.drivers k.number d (omega arith)

-- The same, where the code's gate is the operator's.
pub lowered_two : (names : List Text) (before middle next after : List Driver) (o : Operator) (op : Op) (f g : Formula) (place other last : ℕ) →
    IsLowered names before middle f place → IsLowered names middle next g other → op ≡ operation o → after ≡ next ++ Gate op (place ∷ other ∷ []) ∷ [] → last ≡ length names + length next →
    IsLowered names before after (pair o f g) last
lowered_two names before middle next after o op f g place other last h k same d n =
    lowered_pair names before middle next after o f g place other last h k (d ∙ ap (λ (p : Op). next ++ Gate p (place ∷ other ∷ []) ∷ []) same) n

-- Operands of a level, one at a time.
pub joined-formula : (e first second : Expr) (o : Operator) (v : Vec Operand Global) (b c : Box Expr Global) → e ≡ Joined b o c v → first ≡ b.value → second ≡ c.value →
    formula (tree e) ≡ grouped (pair o (formula (tree first)) (formula (tree second))) (tail v.items)
joined-formula e first second o v b c is same other =
    ap (λ x. formula (tree x)) is
    ∙ ap (grouped (pair o (formula (tree b.value)) (formula (tree c.value)))) (row_tail-vec v)
    ∙ ap (λ x. grouped (pair o (formula (tree x)) (formula (tree c.value))) (tail v.items)) (sym same)
    ∙ ap (λ x. grouped (pair o (formula (tree first)) (formula (tree x))) (tail v.items)) (sym other)

-- How often a reader of a tree calls itself.
abbrev mutual
  pub nodes : Tree → ℕ
  nodes (net n) = 0
  nodes (bit b) = 0
  nodes (inverse t) = nodes t + 1
  nodes (group t) = nodes t + 1
  nodes (joined t o u ts) = nodes t + (nodes u + 1 + nodes_behind ts) + 1

  pub nodes_behind : Tail → ℕ
  nodes_behind done = 0
  nodes_behind (link o t ts) = nodes t + 1 + nodes_behind ts

pub joined-nodes : (e first second : Expr) (o : Operator) (v : Vec Operand Global) (b c : Box Expr Global) → e ≡ Joined b o c v → first ≡ b.value → second ≡ c.value →
    nodes (tree e) ≡ nodes (tree first) + (nodes (tree second) + 1 + nodes_behind (tail v.items)) + 1
joined-nodes e first second o v b c is same other =
    ap (λ x. nodes (tree x)) is
    ∙ ap (λ ts. nodes (tree b.value) + (nodes (tree c.value) + 1 + nodes_behind ts) + 1) (row_tail-vec v)
    ∙ ap (λ x. nodes (tree x) + (nodes (tree c.value) + 1 + nodes_behind (tail v.items)) + 1) (sym same)
    ∙ ap (λ x. nodes (tree first) + (nodes (tree x) + 1 + nodes_behind (tail v.items)) + 1) (sym other)

pub operand-nodes : (os : List Operand) (k : ℕ) (o : Operand) → k < length os → o ≡ get_or os k o → nodes (tree o.expr) < nodes_behind (tail os)
operand-nodes [] k o h is = absurd (omega arith)
operand-nodes (p ∷ os) zero o h is = omega (arith, ap (λ (x : Operand). nodes (tree x.expr)) is)
operand-nodes (p ∷ os) (suc k) o h is = omega (arith, operand-nodes os k o (omega arith) is)

pub own-grows : (f : Formula) (ts : Tail) → own f ≤ own (grouped f ts)
own-grows f done = omega arith
own-grows f (link o t ts) = omega (arith, own-grows (pair o f (formula t)) ts)

grouped-append : (f : Formula) (os us : List Operand) → grouped f (tail (os ++ us)) ≡ grouped (grouped f (tail os)) (tail us)
grouped-append f [] us = refl
grouped-append f (o ∷ os) us = grouped-append (pair o.operator f (formula (tree o.expr))) os us

pub grouped-more : (f : Formula) (os : List Operand) (k : ℕ) (o : Operand) → k < length os → o ≡ get_or os k o →
    grouped f (tail (take (k + 1) os)) ≡ pair o.operator (grouped f (tail (take k os))) (formula (tree o.expr))
grouped-more f os k o h is =
    ap (λ x. grouped f (tail x)) (take_more os k o h) ∙ (grouped-append f (take k os) (get_or os k o ∷ []) ∙ ap (λ (x : Operand). grouped (grouped f (tail (take k os))) (tail (x ∷ []))) (sym is))

-- What is left to lower is large enough for one more operand.
pub operand_fits : (names : List Text) (before middle : List Driver) (f : Formula) (os : List Operand) (k : ℕ) (o : Operand) (place : ℕ) → k < length os → o ≡ get_or os k o →
    IsLowered names before middle (grouped f (tail (take k os))) place → length middle + own (formula (tree o.expr)) + 1 ≤ length before + own (grouped f (tail os))
operand_fits names before middle f os k o place h is low =
    let l = lowered_length names before middle _ place low in
    let e = ap own (grouped-more f os k o h is) in
    let s = ap (λ x. own (grouped f (tail x))) (take-append-drop (k + 1) os) in
    let a = ap own (grouped-append f (take (k + 1) os) (drop (k + 1) os)) in
    let g = own-grows (grouped f (tail (take (k + 1) os))) (tail (drop (k + 1) os)) in
    omega arith

pub lowered_operand : (names : List Text) (before middle next after : List Driver) (f : Formula) (os : List Operand) (k : ℕ) (o : Operand) (op : Op) (place other last : ℕ) → k < length os → o ≡ get_or os k o →
    IsLowered names before middle (grouped f (tail (take k os))) place → IsLowered names middle next (formula (tree o.expr)) other → op ≡ operation o.operator → after ≡ next ++ Gate op (place ∷ other ∷ []) ∷ [] → last ≡ length names + length next →
    IsLowered names before after (grouped f (tail (take (k + 1) os))) last
lowered_operand names before middle next after f os k o op place other last h is low more same d n =
    subst (λ (g : Formula). IsLowered names before after g last) (sym (grouped-more f os k o h is))
    (lowered_pair names before middle next after o.operator _ _ place other last low more (d ∙ ap (λ (p : Op). next ++ Gate p (place ∷ other ∷ []) ∷ []) same) n)

-- Where the gate of a negation is put behind what is negated.
pub negation_result : (names : List Text) (before middle after : List Driver) (e negated : Expr) (b : Box Expr Global) (place : ℕ) (r : Result ℕ NoMemory) → e ≡ Not b → negated ≡ b.value → IsLowered names before middle (formula (tree negated)) place →
    OnOk r (after ≡ middle ++ Gate NotGate (place ∷ []) ∷ []) → IfOk r (λ last. last ≡ length names + length middle) → IfOk r (λ last. IsLowered names before after (formula (tree e)) last)
negation_result names before middle after e negated b place (Ok last) is same low d n =
    subst (λ (x : Expr). IsLowered names before after (formula (tree x)) last) (sym is)
    (subst (λ (x : Expr). IsLowered names before after (negation (formula (tree x))) last) same (lowered_negation names before middle after (formula (tree negated)) place last low d n))
negation_result names before middle after e negated b place (Err x) is same low d n = tt

-- Formulas one behind the other.
all_own-append : (fs gs : List Formula) → all_own (fs ++ gs) ≡ all_own fs + all_own gs
all_own-append [] gs = omega arith
all_own-append (f ∷ fs) gs = omega (arith, all_own-append fs gs)

all_own_drivers-append : (numbered : Text → ℕ) (first next : ℕ) (fs gs : List Formula) → next ≡ first + all_own fs →
    all_own_drivers numbered first (fs ++ gs) ≡ all_own_drivers numbered first fs ++ all_own_drivers numbered next gs
all_own_drivers-append numbered first next [] gs e = ap (λ n. all_own_drivers numbered n gs) (omega arith)
all_own_drivers-append numbered first next (f ∷ fs) gs e =
    ap (λ ds. own_drivers numbered first f ++ ds) (all_own_drivers-append numbered (first + own f) next fs gs (omega arith)) ∙ sym (append_assoc (own_drivers numbered first f) (all_own_drivers numbered (first + own f) fs) (all_own_drivers numbered next gs))

net_numbers-append : (numbered : Text → ℕ) (first next : ℕ) (fs gs : List Formula) → next ≡ first + all_own fs →
    net_numbers numbered first (fs ++ gs) ≡ net_numbers numbered first fs ++ net_numbers numbered next gs
net_numbers-append numbered first next [] gs e = ap (λ n. net_numbers numbered n gs) (omega arith)
net_numbers-append numbered first next (f ∷ fs) gs e = ap (λ ns. net_number numbered first f ∷ ns) (net_numbers-append numbered (first + own f) next fs gs (omega arith))

-- As many numbers as formulas.
pub all_lowered_length : (names : List Text) (before after : List Driver) (fs : List Formula) (places : List ℕ) → AreLowered names before after fs places → length after ≡ length before + all_own fs
all_lowered_length names before after fs places h =
    ap length h.drivers ∙ (length-append before (all_own_drivers (number_among names) (length names + length before) fs) ∙ ap (λ n. length before + n) (length-all_own_drivers (number_among names) (length names + length before) fs))

all_lowered_more : (names : List Text) (before middle after : List Driver) (fs : List Formula) (f : Formula) (places : List ℕ) (place : ℕ) → AreLowered names before middle fs places → IsLowered names middle after f place →
    AreLowered names before after (fs ++ f ∷ []) (places ++ place ∷ [])
all_lowered_more names before middle after fs f places place h low =
    let l = all_lowered_length names before middle fs places h in
    let N = number_among names in
    let first = length names + length before in
    let next = length names + length middle in
    let e : next ≡ first + all_own fs = omega arith in
    record {
      drivers =
          low.drivers ∙ (ap (λ (ds : List Driver). ds ++ own_drivers N next f) h.drivers ∙ (append_assoc before (all_own_drivers N first fs) (own_drivers N next f)
          ∙ ap (λ (ds : List Driver). before ++ ds) (ap (λ (ds : List Driver). all_own_drivers N first fs ++ ds) (sym (append-nil (own_drivers N next f))) ∙ sym (all_own_drivers-append N first next fs (f ∷ []) e))));
      numbers = ap (λ (ns : List ℕ). ns ++ place ∷ []) h.numbers ∙ (ap (λ n. net_numbers N first fs ++ n ∷ []) low.number ∙ sym (net_numbers-append N first next fs (f ∷ []) e));
    }

abbrev pub formulas : List Expr → List Formula
formulas es = map formula (map tree es)

formulas-append : (es : List Expr) (e : Expr) → formulas (es ++ e ∷ []) ≡ formulas es ++ formula (tree e) ∷ []
formulas-append [] e = refl
formulas-append (d ∷ es) e = ap (λ fs. formula (tree d) ∷ fs) (formulas-append es e)

formulas-more : (es : List Expr) (k : ℕ) (e : Expr) → k < length es → e ≡ get_or es k e → formulas (take (k + 1) es) ≡ formulas (take k es) ++ formula (tree e) ∷ []
formulas-more es k e h is = ap formulas (take_more es k e h) ∙ (formulas-append (take k es) (get_or es k e) ∙ ap (λ (x : Expr). formulas (take k es) ++ formula (tree x) ∷ []) (sym is))

formulas-split : (es ds : List Expr) → all_own (formulas (es ++ ds)) ≡ all_own (formulas es) + all_own (formulas ds)
formulas-split [] ds = omega arith
formulas-split (e ∷ es) ds = omega (arith, formulas-split es ds)

pub lowered_more : (names : List Text) (before middle after : List Driver) (es : List Expr) (k : ℕ) (e : Expr) (places : List ℕ) (place : ℕ) → k < length es → e ≡ get_or es k e →
    AreLowered names before middle (formulas (take k es)) places → IsLowered names middle after (formula (tree e)) place → AreLowered names before after (formulas (take (k + 1) es)) (places ++ place ∷ [])
lowered_more names before middle after es k e places place h is before_it low =
    subst (λ (fs : List Formula). AreLowered names before after fs (places ++ place ∷ [])) (sym (formulas-more es k e h is)) (all_lowered_more names before middle after (formulas (take k es)) (formula (tree e)) places place before_it low)

-- What is left to lower is large enough for one more expression.
pub expression_fits : (names : List Text) (before middle : List Driver) (es : List Expr) (k : ℕ) (e : Expr) (places : List ℕ) → k < length es → e ≡ get_or es k e →
    AreLowered names before middle (formulas (take k es)) places → length middle + own (formula (tree e)) ≤ length before + all_own (formulas es)
expression_fits names before middle es k e places h is low =
    let l = all_lowered_length names before middle _ places low in
    let m = ap all_own (formulas-more es k e h is) in
    let a = all_own-append (formulas (take k es)) (formula (tree e) ∷ []) in
    let s = ap (λ x. all_own (formulas x)) (take-append-drop (k + 1) es) in
    let d = formulas-split (take (k + 1) es) (drop (k + 1) es) in
    omega arith

pub some_nets : (names : List Text) (before after : List Driver) (es : List Expr) (places : List ℕ) → 0 < length es → AreLowered names before after (formulas es) places → 0 < length places
some_nets names before after es places h low =
    omega (arith, ap length low.numbers, length-net_numbers (number_among names) (length names + length before) (formulas es), length-map (map tree es) formula, length-map es tree)
