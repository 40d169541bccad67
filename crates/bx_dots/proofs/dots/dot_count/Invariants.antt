use Rattle.std.proofs.Common.{◌*◌, ◌≤◌}
use Rattle.bx_dots.proofs.dots.dot_count.Given as goal

abbrev pub invariant-loop-tile : goal.invariant-loop-tile
invariant-loop-tile l = l.count ≤ 1024 * l.tile
