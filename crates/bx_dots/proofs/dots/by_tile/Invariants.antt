use Rattle.std.proofs.Common.{◌≡◌, ◌<◌, length}
use Rattle.bx_library.specs.Tiles.{IsLibrary}
use Rattle.bx_dots.specs.GridDots.{dots_below}
use Rattle.bx_dots.proofs.dots.by_tile.Given as goal

abbrev pub invariant-loop-tile : goal.invariant-loop-tile
invariant-loop-tile l = record {
  listed : l.dots.items ≡ dots_below l.library l.grid l.tile;
  kept : 0 < length l.dots.items → IsLibrary l.library;
}
