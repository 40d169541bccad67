use Rattle.std.proofs.Common.{◌≡◌, ℕ, ◌+◌, ◌-◌, ◌==◌, Bool, true, false, List, [], ◌∷◌, ◌++◌, length, if◌then◌else◌, refl, length-append, arith}
use Rattle.std.specs.Prelude.{codes}
use Rattle.std.proofs.lemmas.List.FromFn.{length-map-range_with_len}
use Rattle.bx_sample.specs.Gates.{gate_of}
use Rattle.bx_sample.specs.Samples.{gate_line, gate_lines, assign_line, tail_lines}
use Rattle.bx_sample.proofs.laws.a_sample_has_a_line_for_each_gate.Goals as goal

-- one line or two, as a test says, and a last one
tail_length : (single : Bool) (one two end : List ℕ) → 3 + length ((if single then one ∷ [] else (one ∷ two ∷ [])) ++ end ∷ []) ≡ (if single then 5 else 6)
tail_length true one two end = refl
tail_length false one two end = refl

pub returns : goal.returns
returns c number gates extra =
    let line : ℕ → List ℕ = λ k. gate_line gates k (gate_of number k) in
    let joined = length-append (gate_lines number gates extra) (tail_lines gates) in
    let all = length-map-range_with_len line 0 (gates + extra) in
    let tail = tail_length (gates == 1) (assign_line 0 (gates - 1)) (assign_line 1 (gates - 2)) (codes "endmodule") in
    omega (arith, joined, all, tail)
