-- The nodes so far.
use Rattle.bx_encode.specs.Bits.{AreBitsSoFar}
use Rattle.bx_encode.proofs.bits.mark_places.Given as goal

abbrev pub invariant-loop-v : goal.invariant-loop-v
invariant-loop-v l = AreBitsSoFar l.net l.layout l.v 0 l.bits
