use Rattle.std.proofs.Common.{◌≡◌, ◌∷◌}
use Rattle.std.specs.List.{range_with_len}
use Rattle.bx_queue.proofs.ring.each_previous.Given as goal

abbrev pub invariant-loop-number : goal.invariant-loop-number
invariant-loop-number l = l.previous.items ≡ l.count ∷ range_with_len 0 l.number
