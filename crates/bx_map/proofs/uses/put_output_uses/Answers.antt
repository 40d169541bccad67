use Rattle.std.proofs.Common.{refl}
use Rattle.bx_map.proofs.Using.{output_uses-more}
use Rattle.bx_map.proofs.uses.put_output_uses.Goals as goal

pub loop-port-preserved : goal.loop-port-preserved
loop-port-preserved c = output_uses-more _ c.loop-port.all.items _ _ c.loop-port.port _ c.loop-port-test.true refl c.loop-port.invariant c.in_ok-push.ensures.items
