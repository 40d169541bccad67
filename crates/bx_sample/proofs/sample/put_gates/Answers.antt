use Rattle.std.proofs.Common.{◌≡◌, ℕ, ◌+◌, List, ◌++◌, ◌∙◌, ap, sym, string_bytes, add-one, arith}
use Rattle.std.proofs.lemmas.List.Folds.{flat_map-map}
use Rattle.std.specs.List.{flat_map, range_with_len}
use Rattle.bx_lines.specs.Lines.{ended}
use Rattle.bx_sample.specs.declared.gate.Gate.{Gate}
use Rattle.bx_sample.specs.Gates.{gate_of, gate_behind, state_behind, state_before}
use Rattle.bx_sample.specs.Samples.{gate_line, gate_text}
use Rattle.bx_sample.proofs.Turns.{numbers_turn}
use Rattle.bx_sample.proofs.sample.put_gates.Goals as goal

pub loop-k-preserved : goal.loop-k-preserved
loop-k-preserved c =
    let gates = c.args.gates in
    let number = c.args.number in
    let k = c.loop-k.k in
    let own : ℕ → List ℕ = λ j. gate_text gates j (gate_of number j) in
    let is : c.draw_gate-gate.result ≡ gate_of number k = c.draw_gate-gate.ensures.gate ∙ ap (λ s. gate_behind s (4 + k)) c.loop-k.invariant.state in
    record {
      text = c.in_ok-put_gate.ensures
          ∙ ap (λ (gate : Gate). string_bytes c.loop-k.text ++ gate_text gates k gate) is
          ∙ ap (λ bs. bs ++ own k) c.loop-k.invariant.text
          ∙ numbers_turn own (string_bytes c.args.text.now) k;
      state = c.draw_gate-gate.ensures.state ∙ ap state_behind c.loop-k.invariant.state ∙ ap (state_before number) (sym (add-one k));
    }

pub returns : goal.returns
returns c =
    let gates = c.args.gates in
    let number = c.args.number in
    let all : c.loop-k.k ≡ gates + c.args.extra = omega arith in
    let line : ℕ → List ℕ = λ j. gate_line gates j (gate_of number j) in
    c.loop-k.invariant.text
    ∙ ap (λ n. string_bytes c.args.text.now ++ flat_map (λ j. ended (line j)) (range_with_len 0 n)) all
    ∙ ap (λ bs. string_bytes c.args.text.now ++ bs) (sym (flat_map-map ended line (range_with_len 0 (gates + c.args.extra))))
