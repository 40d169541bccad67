use Rattle.std.proofs.Common.{◌≡◌, take}
use Rattle.bx_verify.specs.Failing.{tiles_of as tile_list}
use Rattle.bx_verify.proofs.places.tiles_of.Given as goal

abbrev pub invariant-loop-spot : goal.invariant-loop-spot
invariant-loop-spot l = l.tiles.items ≡ tile_list l.ratio (take l.spot-index l.spots)
