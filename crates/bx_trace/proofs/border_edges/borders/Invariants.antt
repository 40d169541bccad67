use Rattle.std.proofs.Common.{◌≡◌, length}
use Rattle.bx_layout.specs.declared.layout.Layout.{Layout}
use Rattle.bx_trace.specs.Known.{IsLayoutOf, IsStraight, KnowsTargets, KnowsBorders}
use Rattle.bx_trace.proofs.border_edges.borders.Given as goal

abbrev pub invariant-loop-b : goal.invariant-loop-b
invariant-loop-b l = record {
  whole : length l.edges.items ≡ l.b;
  known : (L : Layout) → IsLayoutOf l.net l.grid l.nodes L → IsStraight l.net L → KnowsTargets l.net L l.targets → KnowsBorders L l.edges.items l.b;
}
