use Rattle.std.proofs.Common.{◌≡◌, ◌++◌, map, take}
use Rattle.bx_dots.specs.Places.{moved_by}
use Rattle.bx_dots.proofs.dots.push_moved.Given as goal

abbrev pub invariant-loop-own : goal.invariant-loop-own
invariant-loop-own l = l.dots.items ≡ l.initial.dots.items ++ map (moved_by l.origin.n l.origin.m) (take l.own-index l.owns)
