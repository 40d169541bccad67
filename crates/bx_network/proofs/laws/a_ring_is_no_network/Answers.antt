use Rattle.std.proofs.Common.{arith}
use Rattle.bx_network.proofs.laws.a_ring_is_no_network.Goals as goal

pub returns : goal.returns
returns c = λ h. let back = h.forward.1.0 in omega arith
