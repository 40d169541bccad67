use Rattle.std.proofs.Common.{◌≡◌, length}
use Rattle.bx_network.proofs.Downs.{ups}
use Rattle.bx_network.proofs.lengths.ups.Given as goal

abbrev pub invariant-loop-done : goal.invariant-loop-done
invariant-loop-done l = l.lengths.items ≡ ups l.edges (length l.nodes) l.done
