use Rattle.std.proofs.Common.{ℕ, ◌<◌}
use Rattle.bx_layout.specs.Layouts.{Stands}
use Rattle.bx_layout.specs.Legal.{IsAlone}
use Rattle.bx_layout.proofs.legal.nodes_are_alone.Given as goal

abbrev pub invariant-loop-v : goal.invariant-loop-v
invariant-loop-v l = (v : ℕ) → v < l.v → (t : ℕ) → Stands l.layout v t → IsAlone l.net l.layout v t
