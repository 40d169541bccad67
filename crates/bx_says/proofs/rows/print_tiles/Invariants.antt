-- The names of the tiles so far were printed.
use Rattle.std.proofs.Common.{take, ◌∷◌}
use Rattle.std.specs.List.{flat_map}
use Rattle.bx_desk.specs.Printing.{Prints}
use Rattle.bx_says.specs.Reports.{tile_name}
use Rattle.bx_says.proofs.rows.print_tiles.Given as goal

abbrev pub invariant-loop-tile : goal.invariant-loop-tile
invariant-loop-tile g l = Prints l.fn.printer l.printer (flat_map (λ tile. 32 ∷ tile_name tile) (take l.tile-index l.tiles))
