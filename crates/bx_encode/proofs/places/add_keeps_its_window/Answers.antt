-- One part more.
use Rattle.std.proofs.Common.{length}
use Rattle.bx_encode.specs.Families.{keeps_its_window}
use Rattle.bx_encode.proofs.Adding.{adds-each, each-done}
use Rattle.bx_encode.proofs.places.add_keeps_its_window.Goals as goal

pub loop-v-preserved : goal.loop-v-preserved
loop-v-preserved c = adds-each _ _ _ _ c.loop-v.v c.loop-v.invariant c.in_ok-add_window.ensures

pub returns : goal.returns
unfolding keeps_its_window
returns c = each-done _ _ _ c.loop-v.v c.node_count-v-end.result (length c.args.frame.now.net.now.nodes) c.loop-v.auto.v-end c.loop-v-test.false c.node_count-v-end.ensures.is c.loop-v.invariant
