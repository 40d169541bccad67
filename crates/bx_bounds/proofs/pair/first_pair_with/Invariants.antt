use Rattle.std.proofs.Common.{ℕ, ◌<◌}
use Rattle.bx_grid.specs.declared.count.CountProof.TheVariants.{Pair}
use Rattle.bx_bounds.specs.Refutes.{Refutes}
use Rattle.bx_bounds.proofs.pair.first_pair_with.Given as goal

abbrev pub invariant-loop-two : goal.invariant-loop-two
invariant-loop-two l = (v : ℕ) → v < l.two → Refutes l.net l.ratio (Pair l.one v) → ⊥
