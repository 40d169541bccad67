use Rattle.std.proofs.Common.{◌≡◌, ◌+◌, length}
use Rattle.bx_grid.proofs.Prefixes.{of_areas}
use Rattle.bx_grid.proofs.ratios.Ratios.at.Given as goal

abbrev pub invariant-loop-past : goal.invariant-loop-past
invariant-loop-past l = l.left + length (of_areas l.limits l.past) ≡ l.fn.k
