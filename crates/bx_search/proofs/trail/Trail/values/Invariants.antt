use Rattle.std.proofs.Common.{take}
use Rattle.bx_search.proofs.Trails.{AreBits}
use Rattle.bx_search.proofs.trail.Trail.values.Given as goal

abbrev pub invariant-loop-entry : goal.invariant-loop-entry
invariant-loop-entry l = AreBits l.self.vars l.bits.items (take l.entry-index l.self.entries)
