use Rattle.std.proofs.Common.{◌≡◌}
use Rattle.bx_race.specs.Seats.{draws, stands, IsSeatOf}
use Rattle.bx_tests_race.proofs.workers.works.Given as goal

abbrev pub invariant-loop : goal.invariant-loop
invariant-loop g l = IsSeatOf l.race l.seat × (stands l.seat ≡ stands l.fn.seat) × ((draws l.seat).past ≡ 0)
