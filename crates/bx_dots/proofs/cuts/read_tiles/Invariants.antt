use Rattle.std.proofs.Common.{◌≡◌, ℕ, ◌<◌, get_or, None, vec_len}
use Rattle.bx_library.specs.Tiles.{IsLibrary}
use Rattle.bx_dots.specs.Cuts.{ReadsAs}
use Rattle.bx_dots.proofs.cuts.read_tiles.Given as goal

abbrev pub invariant-loop-tile : goal.invariant-loop-tile
invariant-loop-tile l = record {
  kept : 0 < l.tile → IsLibrary l.library;
  count : vec_len l.tiles ≡ l.tile;
  reads : (t : ℕ) → t < l.tile → ReadsAs l.library l.ratio l.dots t (get_or l.tiles.items t None);
}
