use Rattle.std.proofs.Common.{take}
use Rattle.bx_logic.specs.Components.{IsLowestPlace}
use Rattle.bx_logic.proofs.components.lowest_place.Given as goal

abbrev pub invariant-loop-net : goal.invariant-loop-net
invariant-loop-net l = IsLowestPlace l.places (take l.net-index l.nets) l.place l.lowest
