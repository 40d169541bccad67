use Rattle.std.proofs.Common.{◌≡◌, ◌++◌, drop}
use Rattle.bx_layout.specs.Pins.{pin_tiles}
use Rattle.bx_quick.proofs.pins.input_tiles.Given as goal

abbrev pub invariant-loop-pin : goal.invariant-loop-pin
invariant-loop-pin l = l.tiles.items ++ pin_tiles (drop l.pin-index l.pin-items) ≡ pin_tiles l.pin-items
