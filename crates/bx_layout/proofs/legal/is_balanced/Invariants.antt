use Rattle.std.proofs.Common.{◌≡◌, ℕ, ◌<◌, slice_get, Some}
use Rattle.bx_network.specs.declared.node.Edge.{Edge}
use Rattle.bx_layout.specs.Legal.{IsBalancedAt}
use Rattle.bx_layout.proofs.legal.is_balanced.Given as goal

abbrev pub invariant-loop-tile : goal.invariant-loop-tile
invariant-loop-tile l = (t : ℕ) → t < l.tile → (e : ℕ) (edge : Edge) → slice_get l.net.edges e ≡ Some edge → IsBalancedAt l.layout t e edge
