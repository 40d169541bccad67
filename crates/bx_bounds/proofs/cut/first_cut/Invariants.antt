use Rattle.std.proofs.Common.{ℕ, ◌<◌}
use Rattle.bx_grid.specs.declared.count.CountProof.TheVariants.{Cut}
use Rattle.bx_bounds.specs.Refutes.{Refutes}
use Rattle.bx_bounds.proofs.cut.first_cut.Given as goal

abbrev pub invariant-loop-row : goal.invariant-loop-row
invariant-loop-row l = (a : ℕ) → a < l.row → Refutes l.net l.ratio (Cut a) → ⊥
