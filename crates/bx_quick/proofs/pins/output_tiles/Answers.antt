use Rattle.std.proofs.Common.{◌∙◌, ◌+◌, ◌++◌, ◌∷◌, [], ap, sym, arith}
use Rattle.std.proofs.lemmas.List.FromFn.{map-range_with_len_more}
use Rattle.bx_network.specs.Values.{edge_into}
use Rattle.bx_quick.specs.LaneStates.{lane_of}
use Rattle.bx_quick.specs.Pins.{output_node}
use Rattle.bx_quick.proofs.pins.output_tiles.Goals as goal

pub loop-port-preserved : goal.loop-port-preserved
loop-port-preserved c =
    let lanes = c.args.state.now.lanes in
    let edges = c.args.net.now.edges in
    let item = c.lane_of.ensures.is ∙ ap (λ e. lane_of lanes e) (c.edge_in-edge.ensures ∙ ap (λ v. edge_into edges v 0) c.output_node.ensures.is) in
    c.in_ok-push.ensures.items
    ∙ ap (λ n. c.loop-port.tiles.items ++ (c.args.first + n) ∷ []) item
    ∙ ap (λ zs. zs ++ (c.args.first + lane_of lanes (edge_into edges (output_node c.args.net.now c.loop-port.port) 0)) ∷ []) c.loop-port.invariant
    ∙ sym (map-range_with_len_more (λ port. c.args.first + lane_of lanes (edge_into edges (output_node c.args.net.now port) 0)) 0 c.loop-port.port c.loop-port.port (omega arith))
