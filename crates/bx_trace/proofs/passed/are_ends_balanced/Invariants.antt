use Rattle.std.proofs.Common.{◌≡◌, ℕ, ◌<◌, slice_get, Some}
use Rattle.bx_network.specs.declared.node.Edge.{Edge}
use Rattle.bx_trace.specs.Tests.{IsBalancedAtEnds}
use Rattle.bx_trace.proofs.passed.are_ends_balanced.Given as goal

abbrev pub invariant-loop-e : goal.invariant-loop-e
invariant-loop-e l = (e : ℕ) → e < l.e → (edge : Edge) → slice_get l.net.edges e ≡ Some edge → IsBalancedAtEnds l.layout e edge
