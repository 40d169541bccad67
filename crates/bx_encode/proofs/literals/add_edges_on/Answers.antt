-- The literals rise evenly.
use Rattle.std.proofs.Common.{◌*◌, ap}
use Rattle.bx_encode.proofs.Lists.{edges-rise, put-rising}
use Rattle.std.proofs.lemmas.Result.{IfOk-weaker}
use Rattle.bx_encode.proofs.literals.add_edges_on.Goals as goal

pub returns : goal.returns
returns c = IfOk-weaker c.add_rising.result _ _ (λ _ put. put-rising c.args.list.now.items c.add_rising.new.list.items _ _ put (edges-rise _ _ c.args.b c.edge_on.result (2 * c.tile_count.result) c.edge_count.result c.args.positive c.edge_on.ensures.is (ap (λ n. 2 * n) c.tile_count.ensures.is) c.edge_count.ensures.is)) c.add_rising.ensures
