-- The workers of the seats so far.
use Rattle.std.proofs.Common.{◌≡◌, map, All}
use Rattle.bx_workers.specs.Racing.{IsUnused}
use Rattle.bx_workers.proofs.racing.make_crew.Given as goal

abbrev pub invariant-loop-seat : goal.invariant-loop-seat
invariant-loop-seat l = record {
  can : (goal.iterator-loop-seat).can_next l.seat-iterator;
  finite : (goal.iterator-loop-seat).is_finite l.seat-iterator;
  seats : map (λ w. w.seat) l.crew.items ≡ l.yielded;
  unused : All (IsUnused l.fn.room) l.crew.items;
}
