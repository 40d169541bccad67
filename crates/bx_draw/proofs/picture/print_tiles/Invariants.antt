-- The tiles so far were printed.
use Rattle.std.proofs.Common.{take}
use Rattle.std.specs.List.{flat_map, range_with_len}
use Rattle.bx_desk.specs.Printing.{Prints}
use Rattle.bx_grid.specs.Tiles.{tile_count}
use Rattle.bx_draw.specs.Pictures.{tile_text_at}
use Rattle.bx_draw.proofs.picture.print_tiles.Given as goal

abbrev pub invariant-loop-t : goal.invariant-loop-t
invariant-loop-t g l = Prints l.fn.printer l.printer (flat_map (tile_text_at l.grid l.places) (take l.t (range_with_len 0 (tile_count l.grid.ratio))))
