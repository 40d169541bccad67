use Rattle.std.proofs.Common.{length}
use Rattle.bx_logic.specs.Components.{AreComponents}
use Rattle.bx_logic.proofs.components.Components.close.Given as goal

abbrev pub invariant-loop-net : goal.invariant-loop-net
invariant-loop-net l = AreComponents (length l.fn.self.places.items) l.self

abbrev pub decreases-loop-net : goal.decreases-loop-net
decreases-loop-net l = length l.self.open_nets.items
