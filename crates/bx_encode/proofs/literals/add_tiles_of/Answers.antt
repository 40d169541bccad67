-- The literals rise evenly.
use Rattle.bx_encode.proofs.Lists.{tiles-rise, put-rising}
use Rattle.std.proofs.lemmas.Result.{IfOk-weaker}
use Rattle.bx_encode.proofs.literals.add_tiles_of.Goals as goal

pub returns : goal.returns
returns c = IfOk-weaker c.add_rising.result _ _ (λ _ put. put-rising c.args.list.now.items c.add_rising.new.list.items _ _ put (tiles-rise _ _ c.args.v c.node_on.result c.tile_count.result c.args.positive c.node_on.ensures.is c.tile_count.ensures.is)) c.add_rising.ensures
