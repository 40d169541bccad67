use Rattle.std.proofs.Common.{◌≡◌, ◌++◌}
use Rattle.std.specs.Option.{option_copied}
use Rattle.bx_quick.specs.Grids.{lane_tile, row_of}
use Rattle.bx_quick.proofs.rows.put_lanes.Given as goal

abbrev pub invariant-loop-x : goal.invariant-loop-x
invariant-loop-x l = l.tiles.items ≡ l.fn.tiles.items ++ row_of l.x (lane_tile (option_copied l.before) (option_copied l.next) l.lanes)
