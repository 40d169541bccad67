use Rattle.std.proofs.Common.{◌≡◌, ℕ, ◌<◌, false, get_or}
use Rattle.bx_quick.specs.Pins.{is_output_at}
use Rattle.bx_quick.proofs.Steps.{no_node}
use Rattle.bx_quick.proofs.pins.output_node.Given as goal

abbrev pub invariant-loop-v : goal.invariant-loop-v
invariant-loop-v l = (k : ℕ) → k < l.v → is_output_at l.port (get_or l.net.nodes k no_node) ≡ false
