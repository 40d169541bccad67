use Rattle.std.proofs.Common.{◌≡◌, ℕ, ◌<◌, get_or, None, Some}
use Rattle.bx_trace.proofs.legal.are_edges.Given as goal

abbrev pub invariant-loop-border : goal.invariant-loop-border
invariant-loop-border l = (b : ℕ) → b < l.border-index → (e : ℕ) → get_or l.borders b None ≡ Some e → e < l.count
