-- One list of literals more.
use Rattle.std.proofs.Common.{false, ap, ◌∙◌, arith}
use Rattle.bx_grid.specs.Tiles.{tile_count}
use Rattle.bx_encode.specs.Families.{pairs, stands_apart}
use Rattle.bx_encode.proofs.Adding.{adds-each-as, each-done, clause-as, cleared}
use Rattle.bx_encode.proofs.Shapes.{nodes-clause}
use Rattle.bx_encode.proofs.places.add_stands_apart.Goals as goal

pub add_pairs-requires : goal.add_pairs-requires
add_pairs-requires c = clause-as _ _ _ _ (c.loop-t.invariant.vars ∙ c.requires.vars) (cleared _ _ _ c.in_ok-add_nodes_off.ensures c.clear.ensures.items) (nodes-clause _ _ c.loop-t.t false (omega (arith, c.tile_count-t-end.ensures.is)))

pub loop-t-preserved : goal.loop-t-preserved
loop-t-preserved c = adds-each-as _ _ _ _ c.loop-t.t _ (ap pairs (cleared _ _ _ c.in_ok-add_nodes_off.ensures c.clear.ensures.items)) c.loop-t.invariant c.in_ok-add_pairs.ensures

pub returns : goal.returns
unfolding stands_apart
returns c = each-done _ _ _ c.loop-t.t c.tile_count-t-end.result (tile_count c.args.frame.now.ratio) c.loop-t.auto.t-end c.loop-t-test.false c.tile_count-t-end.ensures.is c.loop-t.invariant
