use Rattle.std.proofs.lemmas.Result.{on_ok_weaker}
use Rattle.bx_map.proofs.Making.{cell_nodes-put}
use Rattle.bx_map.proofs.nodes.put_cell_nodes.Goals as goal

pub returns : goal.returns
returns c =
    on_ok_weaker c.put_fans.result
    (λ put. cell_nodes-put c.args.fan_outs.now c.consumers-consumers.ensures.net c.args.cell _ _ _ _ _ _ c.requires c.cells.ensures c.consumers-consumers.ensures.consumers c.cell_node-own.ensures c.in_ok-push.ensures.items put)
    c.put_fans.ensures
