use Rattle.std.proofs.Common.{ℕ, ◌+◌, ◌<◌, get_or}
use Rattle.bx_library.specs.declared.dot.Dot.{Dot}
use Rattle.bx_library.specs.Dots.{IsBefore}
use Rattle.bx_tests_dots.proofs.dots.are_ascending.Given as goal

abbrev pub invariant-loop-i : goal.invariant-loop-i
invariant-loop-i l = (k : ℕ) (d : Dot) → k + 1 < l.i → IsBefore (get_or l.dots k d) (get_or l.dots (k + 1) d)
