use Rattle.std.proofs.Common.{◌≡◌, take}
use Rattle.bx_search.specs.Learning.{highest}
use Rattle.bx_search.proofs.backtrack.highest.Given as goal

abbrev pub invariant-loop-level : goal.invariant-loop-level
invariant-loop-level l = l.top ≡ highest (take l.level-index l.levels)
