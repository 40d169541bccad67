-- The seats and results of the workers so far.
use Rattle.std.proofs.Common.{◌≡◌, map, flat_map}
use Rattle.bx_workers.specs.Results.{tried_of}
use Rattle.bx_workers.proofs.racing.take_apart.Given as goal

abbrev pub invariant-loop-worker : goal.invariant-loop-worker
invariant-loop-worker l = record {
  can : (goal.iterator-loop-worker).can_next l.worker-iterator;
  finite : (goal.iterator-loop-worker).is_finite l.worker-iterator;
  seats : l.seats.items ≡ map (λ w. w.seat) l.yielded;
  tried : l.all.items ≡ flat_map (λ w. tried_of w.results) l.yielded;
}
