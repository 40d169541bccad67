use Rattle.std.proofs.Common.{◌-◌, length}
use Rattle.bx_watch.specs.Lists.{list_of}
use Rattle.bx_watch.specs.Keeping.{tables_of}
use Rattle.bx_watch.proofs.Moves.{IsWalked}
use Rattle.bx_watch.proofs.watches.Watches.falsify.Given as goal

abbrev pub invariant-loop-at : goal.invariant-loop-at
invariant-loop-at l = IsWalked l.store l.trail.literals l.lit (tables_of l.initial.self) (tables_of l.self) l.at

abbrev pub decreases-loop-at : goal.decreases-loop-at
decreases-loop-at l = length (list_of l.self.lists l.lit) - l.at
