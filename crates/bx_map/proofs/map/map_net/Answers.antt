use Rattle.std.proofs.Common.{◌∙◌, ap, length, sym, subst, arith}
use Rattle.bx_logic.specs.Behaviours.{SameBehaviour, net_behaviour}
use Rattle.bx_network.specs.Networks.{Network}
use Rattle.bx_network.specs.Values.{network_behaviour}
use Rattle.bx_map.specs.Cells.{CellNet}
use Rattle.bx_map.specs.Numbers.{numbering_of}
use Rattle.bx_map.proofs.Mapping.{kept-is_cell_net, kept-is_network}
use Rattle.bx_map.proofs.Behaving.{computes}
use Rattle.bx_map.proofs.map.map_net.Goals as goal

pub count_nodes-requires : goal.count_nodes-requires
count_nodes-requires c = kept-is_cell_net _ _ c.in_ok-cells.ensures.net c.in_ok-cells.ensures.cells.0 c.in_ok-cells.ensures.cells.1

pub network_of-requires-clause-cells : goal.network_of-requires-clause-cells
network_of-requires-clause-cells c = kept-is_cell_net _ _ c.in_ok-cells.ensures.net c.in_ok-cells.ensures.cells.0 c.in_ok-cells.ensures.cells.1

pub network_of-requires-clause-network : goal.network_of-requires-clause-network
network_of-requires-clause-network c =
    kept-is_network _ _ c.in_ok-count.count c.args.most c.in_ok-cells.ensures.net c.in_ok-cells.ensures.cells.0 c.in_ok-cells.ensures.cells.1 c.in_ok-count.ensures.count (omega arith) c.requires

pub returns-clause-behaviour : goal.returns-clause-behaviour
returns-clause-behaviour c =
    let size = c.in_ok-count.ensures.count ∙ ap (λ (cells : CellNet). length (numbering_of cells).nodes) c.in_ok-cells.ensures.cells.1 in
    let is = c.in_ok-network_of.ensures ∙ ap numbering_of c.in_ok-cells.ensures.cells.1 in
    subst (λ (network : Network). SameBehaviour (net_behaviour c.args.net.now) (network_behaviour (length c.args.net.now.inputs) network)) (sym is)
    (computes c.args.net.now c.in_ok-cells.ensures.net c.in_ok-cells.ensures.cells.0 (omega (arith, size)))
