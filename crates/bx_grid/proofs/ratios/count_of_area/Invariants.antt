use Rattle.std.proofs.Common.{◌≡◌, ◌≤◌, length}
use Rattle.bx_grid.proofs.Prefixes.{of_area_to}
use Rattle.bx_grid.proofs.ratios.count_of_area.Given as goal

abbrev pub invariant-loop-narrower : goal.invariant-loop-narrower
invariant-loop-narrower l = (l.count ≡ length (of_area_to l.limits l.area l.narrower)) × (l.count ≤ l.narrower)
