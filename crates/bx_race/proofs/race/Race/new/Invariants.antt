use Rattle.std.proofs.Common.{◌≡◌, ◌+◌, length}
use Rattle.std.specs.Prelude.{All}
use Rattle.bx_race.specs.Draws.{no_draws}
use Rattle.bx_race.specs.Seats.{draws, looks, stands, IsSeatOf, IsNewSeatOf}
use Rattle.bx_race.proofs.race.Race.new.Given as goal

-- the seats that were cut off, and one that stands for all others
abbrev pub invariant-loop : goal.invariant-loop
invariant-loop l =
    All (IsNewSeatOf l.race) l.row.items × IsSeatOf l.race l.rest × (draws l.rest ≡ no_draws) × (looks l.rest ≡ 0)
    × (length l.row.items + stands l.rest ≡ l.seats) × (length l.row.items + 1 ≡ l.counter)
