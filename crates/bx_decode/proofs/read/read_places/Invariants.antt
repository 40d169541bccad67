-- The nodes so far.
use Rattle.bx_decode.specs.Reading.{ArePlaces}
use Rattle.bx_decode.proofs.read.read_places.Given as goal

abbrev pub invariant-loop-v : goal.invariant-loop-v
invariant-loop-v l = ArePlaces l.net l.ratio l.bits l.v l.places.items
