-- One tile more.
use Rattle.bx_grid.specs.Tiles.{tile_count}
use Rattle.bx_encode.specs.Families.{is_permitted}
use Rattle.bx_encode.proofs.Adding.{adds-each, each-done}
use Rattle.bx_encode.proofs.permitted.add_is_permitted.Goals as goal

pub loop-t-preserved : goal.loop-t-preserved
loop-t-preserved c = adds-each _ _ _ _ c.loop-t.t c.loop-t.invariant c.in_ok-add_permitted_on.ensures

pub returns : goal.returns
unfolding is_permitted
returns c = each-done _ _ _ c.loop-t.t c.tile_count-t-end.result (tile_count c.args.frame.now.ratio) c.loop-t.auto.t-end c.loop-t-test.false c.tile_count-t-end.ensures.is c.loop-t.invariant
