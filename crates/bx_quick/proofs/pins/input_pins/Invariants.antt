use Rattle.std.proofs.Common.{◌≡◌, ◌≤◌, [], drop}
use Rattle.bx_quick.specs.Pins.{with_inputs}
use Rattle.bx_quick.proofs.pins.input_pins.Given as goal

abbrev pub invariant-loop-v : goal.invariant-loop-v
invariant-loop-v l =
    (with_inputs l.pins.items l.tile (drop l.v l.net.nodes) ≡ with_inputs [] 0 l.net.nodes)
    × (l.tile ≤ l.v)
