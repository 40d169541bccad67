-- One list of literals more.
use Rattle.std.proofs.Common.{length, true, ◌∙◌, arith}
use Rattle.bx_encode.specs.Families.{stands_somewhere}
use Rattle.bx_encode.proofs.Adding.{adds-map-as, map-done, clause-as, cleared}
use Rattle.bx_encode.proofs.Shapes.{tiles-clause}
use Rattle.bx_encode.proofs.places.add_stands_somewhere.Goals as goal

pub add_list-requires : goal.add_list-requires
add_list-requires c = clause-as _ _ _ _ (c.loop-v.invariant.vars ∙ c.requires.vars) (cleared _ _ _ c.in_ok-add_tiles_of.ensures c.clear.ensures.items) (tiles-clause _ _ c.loop-v.v true (omega (arith, c.node_count-v-end.ensures.is)))

pub loop-v-preserved : goal.loop-v-preserved
loop-v-preserved c = adds-map-as _ _ _ _ c.loop-v.v _ (cleared _ _ _ c.in_ok-add_tiles_of.ensures c.clear.ensures.items) c.loop-v.invariant c.in_ok-add_list.ensures

pub returns : goal.returns
unfolding stands_somewhere
returns c = map-done _ _ _ c.loop-v.v c.node_count-v-end.result (length c.args.frame.now.net.now.nodes) c.loop-v.auto.v-end c.loop-v-test.false c.node_count-v-end.ensures.is c.loop-v.invariant
