use Rattle.std.proofs.Common.{◌≡◌, List, ◌++◌, None}
use Rattle.std.specs.Prelude.{All}
use Rattle.bx_race.specs.declared.seat.RaceSeat.{RaceSeat}
use Rattle.bx_race.specs.Seats.{draws, IsSeatOf}
use Rattle.bx_race.specs.Finished.{IsTogether}
use Rattle.bx_race.proofs.race.Race.join.Given as goal

-- the one seat has what was taken off the end of the seats
abbrev pub invariant-loop-earlier : goal.invariant-loop-earlier
invariant-loop-earlier l =
    All (IsSeatOf l.self) l.seats.items × All (λ s. (draws s).current ≡ None) l.seats.items
    × IsSeatOf l.self l.whole × ((draws l.whole).current ≡ None)
    × ((taken : List RaceSeat) × (l.fn.seats.items ≡ l.seats.items ++ taken) × IsTogether taken l.whole.seat.me.0)

abbrev pub decreases-loop-earlier : goal.decreases-loop-earlier
decreases-loop-earlier l = goal.left-loop-earlier l
