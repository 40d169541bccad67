-- The gates of a sample, as they are drawn from a number.
use Rattle.std.specs.Prelude.{ℕ, zero, suc, ◌+◌, Bool, true, false, if◌then◌else◌, List, [], ◌∷◌, Some, None, codes, slice_index_or}
use Rattle.bx_logic.specs.declared.op.Op.{Op}
use Rattle.bx_logic.specs.declared.op.Op.TheVariants.{Buf, Not, And, Or, Nand, Nor, Xor, Xnor}
use Rattle.bx_sample.specs.declared.gate.Gate.{Gate}
use Rattle.bx_sample.specs.Draws.{next, pick}

abbrev pub word_of : Op → List ℕ
word_of Buf = codes "buf"
word_of Not = codes "not"
word_of And = codes "and"
word_of Or = codes "or"
word_of Nand = codes "nand"
word_of Nor = codes "nor"
word_of Xor = codes "xor"
word_of Xnor = codes "xnor"

-- the operations that are drawn, in the order of their numbers
abbrev pub operations : List Op
operations = And ∷ Or ∷ Nand ∷ Nor ∷ Xor ∷ Xnor ∷ Not ∷ []

-- the operation that the state behind this one draws
abbrev pub operation_behind : ℕ → Op
operation_behind s = slice_index_or operations (pick 7 (next s)) Not

-- a gate of this operation has two operands
abbrev pub has_second : Op → Bool
has_second Not = false
has_second _ = true

-- the gate that is drawn behind a state, with so many signals before it: the operation first, then
-- the first operand, and then the second one
abbrev pub gate_behind : ℕ → ℕ → Gate
gate_behind s signals = record {
  operation = operation_behind s;
  first = pick signals (next (next s));
  second = if has_second (operation_behind s) then Some (pick signals (next (next (next s)))) else None;
}

-- the state that this leaves
abbrev pub state_behind : ℕ → ℕ
state_behind s = if has_second (operation_behind s) then next (next (next s)) else next (next s)

-- the state before the k-th gate of a number's, from 0
abbrev pub state_before : ℕ → ℕ → ℕ
state_before number zero = number
state_before number (suc k) = state_behind (state_before number k)

-- the k-th gate: the signals before it are four inputs and the gates before it
abbrev pub gate_of : ℕ → ℕ → Gate
gate_of number k = gate_behind (state_before number k) (4 + k)
