use Rattle.std.proofs.Common.{ℕ, ◌<◌, ◌≤◌, get_or}
use Rattle.bx_quick.proofs.Steps.{no_pin}
use Rattle.bx_quick.proofs.pins.place_of.Given as goal

abbrev pub invariant-loop-at : goal.invariant-loop-at
invariant-loop-at l = (k : ℕ) → k < l.at → (get_or l.pins k no_pin).port ≤ l.port
