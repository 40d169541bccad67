-- The text of a sample: a list of lines.
use Rattle.std.specs.Prelude.{ℕ, ◌+◌, ◌-◌, ◌==◌, List, [], ◌∷◌, ◌++◌, map, Option, Some, None, if◌then◌else◌, codes, decimal}
use Rattle.std.specs.List.{range_with_len}
use Rattle.bx_lines.specs.Lines.{ended, text_of}
use Rattle.bx_sample.specs.declared.gate.Gate.{Gate}
use Rattle.bx_sample.specs.Gates.{word_of, gate_of}
use Rattle.bx_sample.specs.Signals.{signal_name}

-- the outputs: one where there is one gate, and two where there are more
abbrev pub outputs : ℕ → List ℕ
outputs gates = if gates == 1 then codes "o0" else codes "o0, o1"

abbrev pub head_lines : ℕ → List (List ℕ)
head_lines gates =
    (codes "module sample(i0, i1, i2, i3, " ++ (outputs gates ++ codes ");"))
    ∷ codes "input i0, i1, i2, i3;"
    ∷ (codes "output " ++ (outputs gates ++ codes ";"))
    ∷ []

-- the second operand of a gate, if it has one
abbrev pub further_operand : ℕ → Option ℕ → List ℕ
further_operand gates None = []
further_operand gates (Some signal) = codes ", " ++ signal_name gates signal

-- the k-th gate, from 0, with what it drives first
abbrev pub gate_line : ℕ → ℕ → Gate → List ℕ
gate_line gates k gate =
    word_of gate.operation ++ (codes " (" ++ (signal_name gates (4 + k) ++ (codes ", "
    ++ (signal_name gates gate.first ++ (further_operand gates gate.second ++ codes ");")))))

abbrev pub gate_text : ℕ → ℕ → Gate → List ℕ
gate_text gates k gate = ended (gate_line gates k gate)

-- the gates and the extra ones
abbrev pub gate_lines : ℕ → ℕ → ℕ → List (List ℕ)
gate_lines number gates extra =
    map (λ k. gate_line gates k (gate_of number k)) (range_with_len 0 (gates + extra))

-- an output is a gate
abbrev pub assign_line : ℕ → ℕ → List ℕ
assign_line output gate = codes "assign o" ++ (decimal output ++ (codes " = g" ++ (decimal gate ++ codes ";")))

-- the last gate that isn't extra is the first output, and the one before it the second
abbrev pub assign_lines : ℕ → List (List ℕ)
assign_lines gates =
    if gates == 1
    then assign_line 0 (gates - 1) ∷ []
    else (assign_line 0 (gates - 1) ∷ assign_line 1 (gates - 2) ∷ [])

abbrev pub tail_lines : ℕ → List (List ℕ)
tail_lines gates = assign_lines gates ++ codes "endmodule" ∷ []

abbrev pub sample_lines : ℕ → ℕ → ℕ → List (List ℕ)
sample_lines number gates extra =
    head_lines gates ++ (gate_lines number gates extra ++ tail_lines gates)

abbrev pub sample_text : ℕ → ℕ → ℕ → List ℕ
sample_text number gates extra = text_of (sample_lines number gates extra)
