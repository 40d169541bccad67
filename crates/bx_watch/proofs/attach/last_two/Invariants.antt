use Rattle.std.proofs.Common.{take}
use Rattle.bx_watch.specs.Watches.{IsChosen}
use Rattle.bx_watch.proofs.attach.last_two.Given as goal

abbrev pub invariant-loop-at : goal.invariant-loop-at
invariant-loop-at l = IsChosen l.trail.literals (take l.at l.literals) l.pair
