use Rattle.std.proofs.Common.{take}
use Rattle.bx_watch.specs.Watches.{OthersFail}
use Rattle.bx_watch.proofs.falsify.spare.Given as goal

abbrev pub invariant-loop-lit : goal.invariant-loop-lit
invariant-loop-lit l = OthersFail l.trail.literals (take l.lit-index l.literals) l.pair
