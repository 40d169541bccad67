use Rattle.std.proofs.Common.{◌≡◌, ◌++◌, ◌<◌, ◌^◌, length}
use Rattle.std.specs.Prelude.{decimal}
use Rattle.bx_lines.proofs.decimal.number_at.Given as goal

abbrev pub invariant-loop-n : goal.invariant-loop-n
invariant-loop-n l = record { spelled : l.bytes ≡ decimal l.n ++ l.rest; small : l.n < 2 ^ 36 }

abbrev pub decreases-loop-n : goal.decreases-loop-n
decreases-loop-n l = length l.rest
