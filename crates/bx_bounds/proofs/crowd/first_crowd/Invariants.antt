use Rattle.std.proofs.Common.{ℕ, ◌<◌}
use Rattle.bx_grid.specs.declared.count.CountProof.TheVariants.{Crowd}
use Rattle.bx_bounds.specs.Refutes.{Refutes}
use Rattle.bx_bounds.proofs.crowd.first_crowd.Given as goal

abbrev pub invariant-loop-first : goal.invariant-loop-first
invariant-loop-first l = (a b : ℕ) → a < l.first → Refutes l.net l.ratio (Crowd a b) → ⊥
