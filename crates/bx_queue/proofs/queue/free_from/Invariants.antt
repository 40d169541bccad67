use Rattle.std.proofs.Common.{◌≤◌, length}
use Rattle.bx_queue.specs.Stamps.{AreTakenBefore}
use Rattle.bx_queue.proofs.Places.{left_from}
use Rattle.bx_queue.proofs.queue.free_from.Given as goal

-- all before where it is are taken
abbrev pub invariant-loop-at : goal.invariant-loop-at
invariant-loop-at l =
    record {
      within : l.at ≤ length l.taken;
      before : AreTakenBefore l.at l.taken l.ring;
    }

abbrev pub decreases-loop-at : goal.decreases-loop-at
decreases-loop-at l = left_from l.at l.ring
