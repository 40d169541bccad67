use Rattle.std.proofs.Common.{◌≡◌, List, ℕ, map, take}
use Rattle.bx_tests_network.proofs.nets.output_names.Given as goal

abbrev pub invariant-loop-net : goal.invariant-loop-net
invariant-loop-net l = map (λ (output : List ℕ × ℕ). output.1) l.named.items ≡ take l.net-index l.outputs
