use Rattle.std.proofs.Common.{◌<◌, List, ℕ, length, sym, subst, ◌∙◌, arith}
use Rattle.bx_map.proofs.Making.{nodes_before-none, nodes_before-more, nodes-are}
use Rattle.bx_map.proofs.nodes.nodes_of.Goals as goal

pub loop-cell-init : goal.loop-cell-init
loop-cell-init c = c.new-nodes.ensures.items ∙ nodes_before-none c.args.fan_outs.now

pub loop-cell-preserved : goal.loop-cell-preserved
loop-cell-preserved c = nodes_before-more _ _ c.loop-cell.nodes.items _ c.loop-cell.invariant c.in_ok-put_cell_nodes.ensures

pub put_output_nodes-requires : goal.put_output_nodes-requires
put_output_nodes-requires c = subst (λ (outputs : List ℕ). length outputs < 4294967296) (sym c.outputs.ensures.outputs) c.outputs.ensures.few

pub returns : goal.returns
returns c = nodes-are _ c.loop-cell.cell _ _ c.loop-cell.nodes.items _ c.cells-cell-end.ensures c.outputs.ensures.outputs (omega arith) c.loop-cell.invariant c.in_ok-put_output_nodes.ensures
