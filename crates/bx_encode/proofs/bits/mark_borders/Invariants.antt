-- The borders so far.
use Rattle.std.proofs.Common.{length}
use Rattle.bx_encode.specs.Bits.{AreBitsSoFar}
use Rattle.bx_encode.proofs.bits.mark_borders.Given as goal

abbrev pub invariant-loop-b : goal.invariant-loop-b
invariant-loop-b l = AreBitsSoFar l.net l.layout (length l.net.nodes) l.b l.bits
