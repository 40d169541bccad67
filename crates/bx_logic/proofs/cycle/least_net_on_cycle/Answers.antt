use Rattle.std.proofs.Common.{arith}
use Rattle.bx_logic.proofs.Cycles.{depends-within}
use Rattle.bx_logic.proofs.cycle.least_net_on_cycle.Goals as goal

pub returns-clause-least : goal.returns-clause-least
returns-clause-least c n d = let h = depends-within _ c.requires.reads n n d in c.loop-net.invariant n (omega (arith, h)) d
