-- The literals so far.
use Rattle.std.proofs.Common.{◌≡◌, ◌+◌, ◌*◌, ◌++◌, map}
use Rattle.std.specs.List.{range_with_len}
use Rattle.bx_encode.proofs.literals.add_rising.Given as goal

abbrev pub invariant-loop-k : goal.invariant-loop-k
invariant-loop-k l = l.list.items ≡ l.initial.list.items ++ map (λ k. record { var = l.first + k * l.step; positive = l.positive }) (range_with_len 0 l.k)
