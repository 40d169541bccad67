use Rattle.std.proofs.Common.{◌≡◌}
use Rattle.bx_map.specs.Cells.{cell_net}
use Rattle.bx_map.specs.Drops.{AreRanks, stay_of}
use Rattle.bx_map.proofs.Staying.{kept_before}
use Rattle.bx_map.proofs.keep.staying_cells.Given as goal

abbrev pub invariant-loop-i : goal.invariant-loop-i
invariant-loop-i l = record {
  ranks : AreRanks l.i (stay_of (cell_net l.cells l.outputs)) l.staying.ranks.items;
  cells : l.staying.cells.items ≡ kept_before (cell_net l.cells l.outputs) l.i;
}
