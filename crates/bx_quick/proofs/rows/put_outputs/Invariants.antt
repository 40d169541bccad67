use Rattle.std.proofs.Common.{◌≡◌, ◌++◌}
use Rattle.bx_quick.specs.Grids.{output_tile, row_of}
use Rattle.bx_quick.proofs.rows.put_outputs.Given as goal

abbrev pub invariant-loop-x : goal.invariant-loop-x
invariant-loop-x l = l.tiles.items ≡ l.fn.tiles.items ++ row_of l.x (output_tile l.left)
