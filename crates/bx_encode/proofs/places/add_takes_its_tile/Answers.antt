-- One part more.
use Rattle.bx_grid.specs.Tiles.{tile_count}
use Rattle.bx_encode.specs.Families.{takes_its_tile}
use Rattle.bx_encode.proofs.Adding.{adds-each, each-done}
use Rattle.bx_encode.proofs.places.add_takes_its_tile.Goals as goal

pub loop-t-preserved : goal.loop-t-preserved
loop-t-preserved c = adds-each _ _ _ _ c.loop-t.t c.loop-t.invariant c.in_ok-add_takes.ensures

pub returns : goal.returns
unfolding takes_its_tile
returns c = each-done _ _ _ c.loop-t.t c.tile_count-t-end.result (tile_count c.args.frame.now.ratio) c.loop-t.auto.t-end c.loop-t-test.false c.tile_count-t-end.ensures.is c.loop-t.invariant
