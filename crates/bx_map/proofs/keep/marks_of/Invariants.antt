use Rattle.bx_map.specs.Cells.{cell_net}
use Rattle.bx_map.proofs.Staying.{IsMarking}
use Rattle.bx_map.proofs.keep.marks_of.Given as goal

abbrev pub invariant-loop-i : goal.invariant-loop-i
invariant-loop-i l = IsMarking (cell_net l.cells l.outputs) l.i l.marks.items
