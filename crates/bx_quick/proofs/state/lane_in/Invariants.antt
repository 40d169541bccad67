use Rattle.std.proofs.Common.{◌≡◌, ℕ, ◌<◌, get_or}
use Rattle.bx_quick.proofs.state.lane_in.Given as goal

abbrev pub invariant-loop-lane : goal.invariant-loop-lane
invariant-loop-lane l = (k : ℕ) → k < l.lane → get_or l.lanes k 0 ≡ l.e → ⊥
