use Rattle.std.proofs.Common.{◌≡◌, ℕ, ◌<◌, slice_get, Some}
use Rattle.bx_network.specs.declared.node.Edge.{Edge}
use Rattle.bx_layout.specs.Legal.{IsBalancedAt}
use Rattle.bx_layout.proofs.legal.is_balanced_on.Given as goal

abbrev pub invariant-loop-e : goal.invariant-loop-e
invariant-loop-e l = (e : ℕ) → e < l.e → (edge : Edge) → slice_get l.net.edges e ≡ Some edge → IsBalancedAt l.layout l.tile e edge
