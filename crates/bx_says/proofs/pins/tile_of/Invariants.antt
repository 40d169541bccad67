-- The tile is that which the nodes from here on give.
use Rattle.std.proofs.Common.{◌≡◌, drop}
use Rattle.bx_layout.specs.Pins.{pins_at}
use Rattle.bx_says.specs.Ports.{tile_of}
use Rattle.bx_says.specs.Parts.{kind_test}
use Rattle.bx_says.proofs.pins.tile_of.Given as goal

abbrev pub invariant-loop-v : goal.invariant-loop-v
invariant-loop-v l =
    tile_of (pins_at (kind_test l.direction) l.mapped.nodes l.places) l.port ≡ tile_of (pins_at (kind_test l.direction) (drop l.v l.mapped.nodes) (drop l.v l.places)) l.port
