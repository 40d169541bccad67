use Rattle.std.proofs.Common.{◌≡◌, ◌*◌, length}
use Rattle.bx_grid.specs.Tiles.{tile_count}
use Rattle.bx_layout.specs.declared.layout.Layout.{Layout}
use Rattle.bx_network.specs.Networks.{Network}
use Rattle.bx_trace.specs.Known.{IsLayoutOf, KnowsTargetsFrom}
use Rattle.bx_trace.proofs.ways.targets.Given as goal

abbrev pub invariant-loop-b : goal.invariant-loop-b
invariant-loop-b l = record {
  whole : length l.targets.items ≡ 2 * tile_count l.grid.ratio;
  known : (N : Network) (L : Layout) → IsLayoutOf N l.grid l.nodes L → KnowsTargetsFrom N L l.targets.items l.b;
}
