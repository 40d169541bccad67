use Rattle.std.proofs.Common.{◌+◌, length}
use Rattle.bx_logic.proofs.Cycles.{IsWalk, unseen_cost}
use Rattle.bx_logic.proofs.cycle.is_on_cycle.Given as goal

abbrev pub invariant-loop-net : goal.invariant-loop-net
invariant-loop-net l = IsWalk l.drivers l.start l.seen.items l.pending.items

abbrev pub decreases-loop-net : goal.decreases-loop-net
decreases-loop-net l = length l.pending.items + unseen_cost (λ seen. seen) l.seen.items l.drivers
