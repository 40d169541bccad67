use Rattle.std.proofs.Common.{◌≡◌, length}
use Rattle.bx_network.proofs.Downs.{downs}
use Rattle.bx_network.proofs.lengths.downs.Given as goal

abbrev pub invariant-loop-number : goal.invariant-loop-number
invariant-loop-number l = l.lengths.items ≡ downs l.edges (length l.nodes) l.number
