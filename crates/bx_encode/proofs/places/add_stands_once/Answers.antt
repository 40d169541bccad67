-- One list of literals more.
use Rattle.std.proofs.Common.{length, false, ap, ◌∙◌, arith}
use Rattle.bx_encode.specs.Families.{pairs, stands_once}
use Rattle.bx_encode.proofs.Adding.{adds-each-as, each-done, clause-as, cleared}
use Rattle.bx_encode.proofs.Shapes.{tiles-clause}
use Rattle.bx_encode.proofs.places.add_stands_once.Goals as goal

pub add_pairs-requires : goal.add_pairs-requires
add_pairs-requires c = clause-as _ _ _ _ (c.loop-v.invariant.vars ∙ c.requires.vars) (cleared _ _ _ c.in_ok-add_tiles_of.ensures c.clear.ensures.items) (tiles-clause _ _ c.loop-v.v false (omega (arith, c.node_count-v-end.ensures.is)))

pub loop-v-preserved : goal.loop-v-preserved
loop-v-preserved c = adds-each-as _ _ _ _ c.loop-v.v _ (ap pairs (cleared _ _ _ c.in_ok-add_tiles_of.ensures c.clear.ensures.items)) c.loop-v.invariant c.in_ok-add_pairs.ensures

pub returns : goal.returns
unfolding stands_once
returns c = each-done _ _ _ c.loop-v.v c.node_count-v-end.result (length c.args.frame.now.net.now.nodes) c.loop-v.auto.v-end c.loop-v-test.false c.node_count-v-end.ensures.is c.loop-v.invariant
