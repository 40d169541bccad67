use Rattle.std.proofs.Common.{◌≡◌, ◌+◌, map}
use Rattle.std.specs.List.{range_with_len}
use Rattle.bx_network.specs.Values.{edge_into}
use Rattle.bx_quick.specs.LaneStates.{lane_of}
use Rattle.bx_quick.specs.Pins.{output_node}
use Rattle.bx_quick.proofs.pins.output_tiles.Given as goal

abbrev pub invariant-loop-port : goal.invariant-loop-port
invariant-loop-port l =
    l.tiles.items
    ≡ map (λ port. l.first + lane_of l.state.lanes (edge_into l.net.edges (output_node l.net port) 0))
    (range_with_len 0 l.port)
