-- The first output that folds to a constant is an output.
use Rattle.std.proofs.Common.{◌≡◌, ℕ, ◌<◌, nat_lt, Some, None, List, length, arith, inl, inr}
use Rattle.std.specs.List.{position_or_len}
use Rattle.std.proofs.lemmas.Bool.{cases_Bool, ltb-true}
use Rattle.std.proofs.lemmas.List.{length-map}
use Rattle.bx_logic.specs.Nets.{Netlist, output_nets}
use Rattle.bx_map.specs.Folds.{fold_value, folding}
use Rattle.bx_map.specs.Maps.{is_constant, output_folds, first_constant}

pub constant-within : (net : Netlist) (port : ℕ) → first_constant net ≡ Some port → port < length net.outputs
constant-within net port h =
    elim (cases_Bool (nat_lt (position_or_len is_constant (output_folds net)) (length (output_folds net)))) [
      | inl found ↦
          let e : Some (position_or_len is_constant (output_folds net)) ≡ Some port = rw found at h in
          let same : position_or_len is_constant (output_folds net) ≡ port = cc in
          let low = ltb-true (position_or_len is_constant (output_folds net)) (length (output_folds net)) found in
          let folds = length-map (output_nets net) (fold_value (folding net).values) in
          let nets = length-map net.outputs (λ (output : List ℕ × ℕ). output.1) in
          omega arith
      | inr missing ↦ (let lost : None ≡ Some port = rw missing at h in absurd (cc))
    ]
