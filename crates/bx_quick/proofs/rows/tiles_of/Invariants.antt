use Rattle.std.proofs.Common.{◌≡◌, ◌++◌, None, drop}
use Rattle.std.specs.Option.{option_copied}
use Rattle.bx_quick.specs.Grids.{rows_of}
use Rattle.bx_quick.proofs.rows.tiles_of.Given as goal

abbrev pub invariant-loop-op : goal.invariant-loop-op
invariant-loop-op l =
    l.tiles.items ++ rows_of l.width l.left (option_copied l.before) (drop l.op-index l.operations)
    ≡ rows_of l.width l.left None l.operations
