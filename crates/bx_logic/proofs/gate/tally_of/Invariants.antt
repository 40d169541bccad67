use Rattle.std.proofs.Common.{map, take}
use Rattle.bx_logic.specs.Known.{known_value}
use Rattle.bx_logic.proofs.Tallies.{IsTally}
use Rattle.bx_logic.proofs.gate.tally_of.Given as goal

abbrev pub invariant-loop-net : goal.invariant-loop-net
invariant-loop-net l = IsTally (map (known_value l.known) (take l.net-index l.nets)) l.all l.any l.odd
