use Rattle.std.proofs.Common.{ℕ, ◌<◌}
use Rattle.bx_grid.specs.declared.count.CountProof.TheVariants.{Pair}
use Rattle.bx_bounds.specs.Refutes.{Refutes}
use Rattle.bx_bounds.proofs.pair.first_pair.Given as goal

abbrev pub invariant-loop-one : goal.invariant-loop-one
invariant-loop-one l = (u v : ℕ) → u < l.one → Refutes l.net l.ratio (Pair u v) → ⊥
