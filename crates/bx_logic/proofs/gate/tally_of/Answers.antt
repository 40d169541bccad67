use Rattle.bx_logic.proofs.Tallies.{tally_more}
use Rattle.bx_logic.proofs.gate.tally_of.Goals as goal

pub loop-net-preserved : goal.loop-net-preserved
loop-net-preserved c =
    tally_more c.args.known.now c.args.nets.now c.loop-net.net-index c.loop-net.all c.loop-net.any c.loop-net.odd c.unwrap-value.result
    c.loop-net.invariant c.loop-net-test.true c.unwrap-value.ensures
