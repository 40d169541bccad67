use Rattle.std.proofs.Common.{◌∙◌, arith}
use Rattle.bx_map.proofs.Making.{edges_before-none, edges_before-more, edges-are}
use Rattle.bx_map.proofs.edges.edges_of.Goals as goal

pub loop-cell-init : goal.loop-cell-init
loop-cell-init c = c.new-edges.ensures.items ∙ edges_before-none c.args.fan_outs.now

pub loop-cell-preserved : goal.loop-cell-preserved
loop-cell-preserved c = edges_before-more _ _ c.loop-cell.edges.items _ c.loop-cell.invariant c.in_ok-put_cell_edges.ensures

pub returns : goal.returns
returns c = edges-are _ c.loop-cell.cell _ _ c.cells-cell-end.ensures (omega arith) c.loop-cell.invariant
