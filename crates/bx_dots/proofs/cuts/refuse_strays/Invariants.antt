use Rattle.std.proofs.Common.{ℕ, ◌<◌, get_or}
use Rattle.bx_library.specs.declared.dot.Dot.{Dot}
use Rattle.bx_dots.specs.Places.{IsStray}
use Rattle.bx_dots.proofs.cuts.refuse_strays.Given as goal

abbrev pub invariant-loop-dot : goal.invariant-loop-dot
invariant-loop-dot l = (k : ℕ) (d : Dot) → k < l.dot-index → IsStray l.library l.ratio (get_or l.dots k d) → ⊥
