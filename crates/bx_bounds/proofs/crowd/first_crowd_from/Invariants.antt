use Rattle.std.proofs.Common.{ℕ, ◌<◌}
use Rattle.bx_grid.specs.declared.count.CountProof.TheVariants.{Crowd}
use Rattle.bx_bounds.specs.Refutes.{Refutes}
use Rattle.bx_bounds.proofs.crowd.first_crowd_from.Given as goal

abbrev pub invariant-loop-last : goal.invariant-loop-last
invariant-loop-last l = (b : ℕ) → b < l.last → Refutes l.net l.ratio (Crowd l.first b) → ⊥
