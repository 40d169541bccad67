use Rattle.std.proofs.Common.{arith}
use Rattle.bx_verdict.proofs.settled.judge_steadily.Goals as goal

pub unreachable-requires : goal.unreachable-requires
unreachable-requires g c = omega (arith, c.in_ok-end.ensures.stopped c.in-Stopped.is)
