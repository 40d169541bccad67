use Rattle.std.proofs.Common.{◌≡◌, take, filter}
use Rattle.std.specs.Prelude.{nat_lt}
use Rattle.bx_search.specs.Learning.{highest}
use Rattle.bx_search.proofs.backtrack.second_highest.Given as goal

abbrev pub invariant-loop-level : goal.invariant-loop-level
invariant-loop-level l = l.second ≡ highest (filter (λ level. nat_lt level l.top) (take l.level-index l.levels))
