-- The borders so far.
use Rattle.bx_decode.specs.Reading.{AreBorders}
use Rattle.bx_decode.proofs.read.read_borders.Given as goal

abbrev pub invariant-loop-b : goal.invariant-loop-b
invariant-loop-b l = AreBorders l.net l.ratio l.bits l.b l.borders.items
