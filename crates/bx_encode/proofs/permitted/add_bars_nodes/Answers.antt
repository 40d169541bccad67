-- One node more.
use Rattle.bx_encode.proofs.Adding.{adds-each-filtered}
use Rattle.bx_encode.proofs.permitted.add_bars_nodes.Goals as goal

pub loop-v-preserved : goal.loop-v-preserved
loop-v-preserved c = adds-each-filtered _ _ _ _ _ c.loop-v.v c.loop-v.invariant c.in_ok-add_bars_if.ensures
