-- One tile more.
use Rattle.std.proofs.Common.{ap}
use Rattle.bx_grid.specs.Tiles.{tile_count}
use Rattle.bx_encode.specs.Families.{each, edges, rule_clauses, keeps_rule}
use Rattle.bx_encode.proofs.Adding.{adds-by, adds-each, each-done}
use Rattle.bx_encode.proofs.ways.add_keeps_rule.Goals as goal

pub loop-t-preserved : goal.loop-t-preserved
loop-t-preserved c =
    adds-each _ _ _ _ c.loop-t.t c.loop-t.invariant
    (adds-by _ _ _ _ (ap (λ t. each (edges c.args.frame.now.net.now c.args.frame.now.ratio) (rule_clauses c.args.frame.now.net.now c.args.frame.now.ratio c.args.rule t)) c.in_ok-look.ensures.tile) c.in_ok-add_on_tile.ensures)

pub returns : goal.returns
unfolding keeps_rule
returns c = each-done _ _ _ c.loop-t.t c.tile_count-t-end.result (tile_count c.args.frame.now.ratio) c.loop-t.auto.t-end c.loop-t-test.false c.tile_count-t-end.ensures.is c.loop-t.invariant
