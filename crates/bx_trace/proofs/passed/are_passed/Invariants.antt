use Rattle.std.proofs.Common.{ℕ, ◌<◌}
use Rattle.bx_trace.specs.Known.{entry}
use Rattle.bx_trace.specs.Tests.{IsPassed}
use Rattle.bx_trace.proofs.passed.are_passed.Given as goal

abbrev pub invariant-loop-tile : goal.invariant-loop-tile
invariant-loop-tile l = (t : ℕ) → t < l.tile → IsPassed l.net l.layout t (entry l.nodes t)
