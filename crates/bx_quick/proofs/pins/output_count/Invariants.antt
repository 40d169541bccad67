use Rattle.std.proofs.Common.{◌≡◌, ◌≤◌, ◌+◌, length, filter, drop}
use Rattle.bx_network.specs.Networks.{is_output, output_count}
use Rattle.bx_quick.proofs.pins.output_count.Given as goal

abbrev pub invariant-loop-v : goal.invariant-loop-v
invariant-loop-v l =
    (l.count + length (filter (λ node. is_output node.kind) (drop l.v l.net.nodes)) ≡ output_count l.net)
    × (l.count ≤ l.v)
