-- The lines of a sample have no bytes below 11, so that none is a line feed.
use Rattle.std.proofs.Common.{◌≡◌, ℕ, zero, suc, ◌+◌, ◌-◌, ◌<◌, ◌≤◌, ◌^◌, ◌/◌, ◌==◌, Bool, true, false, nat_lt, List, [], ◌∷◌, ◌++◌, map, Option, Some, None, Contains, if◌then◌else◌, unwrap_or, refl, ap, subst, arith}
use Rattle.std.specs.Prelude.{codes, decimal}
use Rattle.std.specs.List.{AllByRecursion, range_with_len}
use Rattle.std.proofs.Math.Nat.{mod-lt}
use Rattle.bx_lines.proofs.Above.{Above, above, above_are, all_append, decimal_above}
use Rattle.bx_logic.specs.declared.op.Op.{Op}
use Rattle.bx_logic.specs.declared.op.Op.TheVariants.{Buf, Not, And, Or, Nand, Nor, Xor, Xnor}
use Rattle.bx_sample.specs.declared.gate.Gate.{Gate}
use Rattle.bx_sample.specs.declared.signal.Signal.TheVariants as signal
use Rattle.bx_sample.specs.Draws.{next, pick}
use Rattle.bx_sample.specs.Gates.{word_of, gate_of, has_second, operation_behind, state_before}
use Rattle.bx_sample.specs.Signals.{name_of, signal_name}
use Rattle.bx_sample.specs.Samples.{outputs, head_lines, further_operand, gate_line, gate_lines, assign_line, tail_lines, sample_lines}

abbrev pub AreAbove : List ℕ → Type 0
AreAbove bytes = AllByRecursion Above bytes

abbrev AreAllAbove : List (List ℕ) → Type 0
AreAllAbove lines = AllByRecursion AreAbove lines

joined : (a b : List ℕ) → AreAbove a → AreAbove b → AreAbove (a ++ b)
joined a b = all_append Above a b

word_above : (op : Op) → AreAbove (word_of op)
unfolding above
word_above Buf = above_are (codes "buf") refl
word_above Not = above_are (codes "not") refl
word_above And = above_are (codes "and") refl
word_above Or = above_are (codes "or") refl
word_above Nand = above_are (codes "nand") refl
word_above Nor = above_are (codes "nor") refl
word_above Xor = above_are (codes "xor") refl
word_above Xnor = above_are (codes "xnor") refl

-- a letter and a number
lettered_above : (letter k : ℕ) → 10 < letter → k < 2 ^ 64 → AreAbove (letter ∷ decimal k)
lettered_above letter k high small = (high, decimal_above k small)

signal_above : (gates k : ℕ) → k < 2 ^ 64 → AreAbove (signal_name gates k)
signal_above gates k small = of (nat_lt k 4) (nat_lt (k - 4) gates) where
  of : (input own : Bool) → AreAbove (name_of (if input then signal.Input k else (if own then signal.Gate (k - 4) else signal.Extra (k - 4 - gates))))
  of true own = lettered_above 105 k (omega arith) small
  of false true = lettered_above 103 (k - 4) (omega arith) (omega arith)
  of false false = lettered_above 120 (k - 4 - gates) (omega arith) (omega arith)

further_above : (gates : ℕ) (second : Option ℕ) → ((k : ℕ) → second ≡ Some k → k < 2 ^ 64) → AreAbove (further_operand gates second)
unfolding above
further_above gates None small = tt
further_above gates (Some k) small = joined (codes ", ") (signal_name gates k) (above_are (codes ", ") refl) (signal_above gates k (small k refl))

gate_above : (gates k : ℕ) (gate : Gate) → k < 2 ^ 34 → gate.first < 2 ^ 64 → ((s : ℕ) → gate.second ≡ Some s → s < 2 ^ 64) → AreAbove (gate_line gates k gate)
unfolding above
gate_above gates k gate small first second =
    let own = signal_name gates (4 + k) in
    let one = signal_name gates gate.first in
    let two = further_operand gates gate.second in
    let end : AreAbove (two ++ codes ");") = joined two (codes ");") (further_above gates gate.second second) (above_are (codes ");") refl) in
    let operands : AreAbove (one ++ (two ++ codes ");")) = joined one (two ++ codes ");") (signal_above gates gate.first first) end in
    let behind : AreAbove (codes ", " ++ (one ++ (two ++ codes ");"))) = joined (codes ", ") (one ++ (two ++ codes ");")) (above_are (codes ", ") refl) operands in
    let driven : AreAbove (own ++ (codes ", " ++ (one ++ (two ++ codes ");")))) = joined own (codes ", " ++ (one ++ (two ++ codes ");"))) (signal_above gates (4 + k) (omega arith)) behind in
    joined (word_of gate.operation) (codes " (" ++ (own ++ (codes ", " ++ (one ++ (two ++ codes ");"))))) (word_above gate.operation)
    (joined (codes " (") (own ++ (codes ", " ++ (one ++ (two ++ codes ");")))) (above_are (codes " (") refl) driven)

-- what is drawn of so many
picked : (many s : ℕ) → 0 < many → pick many s < many
picked many s some = mod-lt (s / 65536) some

-- the second operand, where a test says that there is one
second_below : (two : Bool) (n s limit : ℕ) → n < limit → (if two then Some n else None) ≡ Some s → s < limit
second_below true n s limit low e = subst (λ m. m < limit) (ap (λ o. unwrap_or o 0) e) low
second_below false n s limit low e = let never : ⊥ = cc in absurd never

drawn_above : (gates number k : ℕ) → k < 2 ^ 33 → AreAbove (gate_line gates k (gate_of number k))
drawn_above gates number k small =
    let s = state_before number k in
    gate_above gates k (gate_of number k) (omega arith)
    (let first = picked (4 + k) (next (next s)) (omega arith) in omega (arith, first))
    (λ signal e. let second = second_below (has_second (operation_behind s)) (pick (4 + k) (next (next (next s)))) signal (4 + k) (picked (4 + k) (next (next (next s))) (omega arith)) e in omega (arith, second))

each_above : (line : ℕ → List ℕ) (end a n : ℕ) → ((k : ℕ) → k < end → AreAbove (line k)) → a + n ≤ end → AreAllAbove (map line (range_with_len a n))
each_above line end a zero are low = tt
each_above line end a (suc n) are low = (are a (omega arith), each_above line end (a + 1) n are (omega arith))

outputs_above : (gates : ℕ) → AreAbove (outputs gates)
unfolding above
outputs_above gates = of (gates == 1) where
  of : (single : Bool) → AreAbove (if single then codes "o0" else codes "o0, o1")
  of true = above_are (codes "o0") refl
  of false = above_are (codes "o0, o1") refl

head_above : (gates : ℕ) → AreAllAbove (head_lines gates)
unfolding above
head_above gates =
    let outs = outputs_above gates in
    let ports : AreAbove (codes "module sample(i0, i1, i2, i3, " ++ (outputs gates ++ codes ");")) =
    joined (codes "module sample(i0, i1, i2, i3, ") (outputs gates ++ codes ");") (above_are (codes "module sample(i0, i1, i2, i3, ") refl) (joined (outputs gates) (codes ");") outs (above_are (codes ");") refl)) in
    let declared : AreAbove (codes "output " ++ (outputs gates ++ codes ";")) =
    joined (codes "output ") (outputs gates ++ codes ";") (above_are (codes "output ") refl) (joined (outputs gates) (codes ";") outs (above_are (codes ";") refl)) in
    (ports, (above_are (codes "input i0, i1, i2, i3;") refl, (declared, tt)))

assign_above : (output gate : ℕ) → output < 2 ^ 64 → gate < 2 ^ 64 → AreAbove (assign_line output gate)
unfolding above
assign_above output gate small low =
    let end : AreAbove (decimal gate ++ codes ";") = joined (decimal gate) (codes ";") (decimal_above gate low) (above_are (codes ";") refl) in
    let driver : AreAbove (codes " = g" ++ (decimal gate ++ codes ";")) = joined (codes " = g") (decimal gate ++ codes ";") (above_are (codes " = g") refl) end in
    joined (codes "assign o") (decimal output ++ (codes " = g" ++ (decimal gate ++ codes ";"))) (above_are (codes "assign o") refl)
    (joined (decimal output) (codes " = g" ++ (decimal gate ++ codes ";")) (decimal_above output small) driver)

tail_above : (gates : ℕ) → gates < 2 ^ 32 → AreAllAbove (tail_lines gates)
unfolding above
tail_above gates small = of (gates == 1) where
  end : AreAllAbove (codes "endmodule" ∷ [])
  end = (above_are (codes "endmodule") refl, tt)

  of : (single : Bool) → AreAllAbove ((if single then assign_line 0 (gates - 1) ∷ [] else (assign_line 0 (gates - 1) ∷ assign_line 1 (gates - 2) ∷ [])) ++ codes "endmodule" ∷ [])
  of true = (assign_above 0 (gates - 1) (omega arith) (omega arith), end)
  of false = (assign_above 0 (gates - 1) (omega arith) (omega arith), (assign_above 1 (gates - 2) (omega arith) (omega arith), end))

all_above : (number gates extra : ℕ) → gates < 2 ^ 32 → extra < 2 ^ 32 → AreAllAbove (sample_lines number gates extra)
all_above number gates extra some few =
    let each = each_above (λ k. gate_line gates k (gate_of number k)) (gates + extra) 0 (gates + extra) (λ k low. drawn_above gates number k (omega arith)) (omega arith) in
    all_append AreAbove (head_lines gates) (gate_lines number gates extra ++ tail_lines gates) (head_above gates)
    (all_append AreAbove (gate_lines number gates extra) (tail_lines gates) each (tail_above gates some))

member_above : (lines : List (List ℕ)) (line : List ℕ) → AreAllAbove lines → Contains lines line → AreAbove line
member_above [] line are has = absurd (omega (arith, has.1))
member_above (l ∷ ls) line are (zero, lt, e) = subst AreAbove e are.0
member_above (l ∷ ls) line are (suc i, lt, e) = member_above ls line are.1 (i, omega (arith, lt), e)

pub line_above : (number gates extra : ℕ) (line : List ℕ) → gates < 2 ^ 32 → extra < 2 ^ 32 → Contains (sample_lines number gates extra) line → AreAbove line
line_above number gates extra line some few has = member_above (sample_lines number gates extra) line (all_above number gates extra some few) has
