use Rattle.std.proofs.Common.{take}
use Rattle.bx_watch.specs.Readings.{IsRead}
use Rattle.bx_watch.proofs.reading.read.Given as goal

abbrev pub invariant-loop-lit : goal.invariant-loop-lit
invariant-loop-lit l = IsRead l.trail.literals (take l.lit-index l.clause) l.reading
