use Rattle.std.proofs.Common.{ℕ, ◌<◌}
use Rattle.bx_bounds.specs.Refutes.{IsLate}
use Rattle.bx_bounds.proofs.late.first_late.Given as goal

abbrev pub invariant-loop-node : goal.invariant-loop-node
invariant-loop-node l = (v : ℕ) → v < l.node → IsLate l.net l.ratio.h v → ⊥
