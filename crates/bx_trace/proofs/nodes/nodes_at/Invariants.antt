use Rattle.std.proofs.Common.{◌≡◌, ◌↔◌, ◌<◌, ℕ, length, slice_get, Some}
use Rattle.bx_trace.specs.Known.{entry}
use Rattle.bx_trace.proofs.nodes.nodes_at.Given as goal

abbrev pub invariant-loop-v : goal.invariant-loop-v
invariant-loop-v l = record {
  whole : length l.nodes.items ≡ l.tiles;
  each : (t u : ℕ) → (entry l.nodes.items t ≡ Some u) ↔ ((u < l.v) × (slice_get l.places u ≡ Some t));
}
