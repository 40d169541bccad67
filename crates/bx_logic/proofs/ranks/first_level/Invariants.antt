use Rattle.std.proofs.Common.{ℕ, ◌<◌}
use Rattle.bx_logic.specs.Cycles.{FallsFrom}
use Rattle.bx_logic.proofs.ranks.first_level.Given as goal

abbrev pub invariant-loop-net : goal.invariant-loop-net
invariant-loop-net l = (n : ℕ) → n < l.net → FallsFrom l.drivers l.ranks n
