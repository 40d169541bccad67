use Rattle.std.proofs.Common.{ℕ, ◌<◌}
use Rattle.bx_layout.specs.Layouts.{Stands}
use Rattle.bx_layout.proofs.tile_form.node_on.Given as goal

abbrev pub invariant-loop-v : goal.invariant-loop-v
invariant-loop-v l = (u : ℕ) → u < l.v → Stands l.layout u l.tile → ⊥
