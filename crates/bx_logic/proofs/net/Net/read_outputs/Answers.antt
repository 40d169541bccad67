use Rattle.std.proofs.Common.{arith}
use Rattle.bx_logic.proofs.Valuations.{all_read}
use Rattle.bx_logic.proofs.net.Net.read_outputs.Goals as goal

pub returns : goal.returns
returns c = all_read _ _ _ c.loop-j.j c.len.ensures.net c.requires.bits (omega arith) c.loop-j.invariant.read
