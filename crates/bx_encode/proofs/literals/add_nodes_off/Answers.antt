-- The literals rise evenly.
use Rattle.std.proofs.Common.{false}
use Rattle.bx_encode.proofs.Lists.{nodes-rise, put-rising}
use Rattle.std.proofs.lemmas.Result.{IfOk-weaker}
use Rattle.bx_encode.proofs.literals.add_nodes_off.Goals as goal

pub returns : goal.returns
returns c = IfOk-weaker c.add_rising.result _ _ (λ _ put. put-rising c.args.list.now.items c.add_rising.new.list.items _ _ put (nodes-rise _ _ c.args.t c.node_on.result c.tile_count.result c.node_count.result false c.node_on.ensures.is c.tile_count.ensures.is c.node_count.ensures.is)) c.add_rising.ensures
