use Rattle.std.proofs.Common.{◌∙◌, arith}
use Rattle.bx_map.specs.Cells.{cell_net}
use Rattle.bx_map.proofs.Staying.{kept-begin, kept-next, ranks-begin, ranks-next, all-kept}
use Rattle.bx_map.proofs.keep.staying_cells.Goals as goal

pub loop-i-init : goal.loop-i-init
loop-i-init c = record {
  ranks = ranks-begin (cell_net c.args.cells.now c.args.outputs.now) c.new-2.result.items c.new-2.ensures.items;
  cells = c.new.ensures.items ∙ kept-begin (cell_net c.args.cells.now c.args.outputs.now);
}

pub loop-i-preserved : goal.loop-i-preserved
loop-i-preserved c = record {
  ranks = ranks-next (cell_net c.args.cells.now c.args.outputs.now) c.loop-i.i c.loop-i.staying.ranks.items c.add.new.self.ranks.items c.loop-i.staying.cells.items
      c.loop-i.invariant.ranks c.loop-i.invariant.cells c.in_ok-add.ensures.ranks;
  cells = kept-next (cell_net c.args.cells.now c.args.outputs.now) c.requires.cells c.loop-i.i c.loop-i.staying.ranks.items c.args.marks.now c.loop-i.staying.cells.items
      c.add.new.self.cells.items (omega arith) c.loop-i.invariant.ranks c.requires.marks c.loop-i.invariant.cells c.in_ok-add.ensures.cells;
}

pub returns-clause-cells : goal.returns-clause-cells
returns-clause-cells c = all-kept (cell_net c.args.cells.now c.args.outputs.now) c.loop-i.i c.loop-i.staying.cells.items (omega arith) c.loop-i.invariant.cells
