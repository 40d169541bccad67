-- The gates so far were put, and the generator stands behind their draws.
use Rattle.std.proofs.Common.{◌≡◌, ◌++◌, string_bytes}
use Rattle.std.specs.List.{flat_map, range_with_len}
use Rattle.bx_sample.specs.Gates.{gate_of, state_before}
use Rattle.bx_sample.specs.Samples.{gate_text}
use Rattle.bx_sample.proofs.sample.put_gates.Given as goal

abbrev pub invariant-loop-k : goal.invariant-loop-k
invariant-loop-k l = record {
  text : string_bytes l.text ≡ string_bytes l.initial.text ++ flat_map (λ k. gate_text l.gates k (gate_of l.number k)) (range_with_len 0 l.k);
  state : l.generator.state ≡ state_before l.number l.k;
}
