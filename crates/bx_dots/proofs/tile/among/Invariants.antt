use Rattle.std.proofs.Common.{◌≡◌, map, filter, take}
use Rattle.bx_dots.specs.Reading.{is_among, moved_back}
use Rattle.bx_dots.proofs.tile.among.Given as goal

abbrev pub invariant-loop-dot : goal.invariant-loop-dot
invariant-loop-dot l = l.owns.items ≡ map (moved_back l.origin.n l.origin.m) (filter (is_among l.origin.n l.width) (take l.dot-index l.rows))
