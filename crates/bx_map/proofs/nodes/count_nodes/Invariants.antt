use Rattle.std.proofs.Common.{length}
use Rattle.bx_map.proofs.Counts.{IsCounted}
use Rattle.bx_map.proofs.nodes.count_nodes.Given as goal

abbrev pub invariant-loop-cell : goal.invariant-loop-cell
invariant-loop-cell l = IsCounted l.cells (length l.net.outputs) l.cell-index l.count
