use Rattle.std.proofs.Common.{◌≡◌, ℕ, ◌<◌, slice_get, Some}
use Rattle.bx_network.specs.declared.node.Node.{Node}
use Rattle.bx_layout.specs.Layouts.{Stands}
use Rattle.bx_layout.specs.Legal.{StandsAtItsEnd}
use Rattle.bx_trace.proofs.legal.has_its_ends.Given as goal

abbrev pub invariant-loop-v : goal.invariant-loop-v
invariant-loop-v l = (v : ℕ) → v < l.v → (t : ℕ) (node : Node) → slice_get l.net.nodes v ≡ Some node → Stands l.layout v t → StandsAtItsEnd node.kind l.layout.ratio t
