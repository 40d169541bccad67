-- What contracts see of a race and its seats.
use Rattle.std.specs.Prelude.{◌≡◌, ℕ}
use Rattle.bx_race.specs.declared.race.Race.{Race}
use Rattle.bx_race.specs.declared.seat.RaceSeat.{RaceSeat}
use Rattle.bx_race.specs.declared.view.Draws.{Draws}
use Rattle.bx_race.specs.Draws.{no_draws}

abbrev pub draws : RaceSeat → Draws
draws s = s.seat.me.0.draws

-- how often the seat looked
abbrev pub looks : RaceSeat → ℕ
looks s = s.seat.me.0.looks

-- for how many seats it stands
abbrev pub stands : RaceSeat → ℕ
stands s = s.seat.me.0.stands

-- a race's number of indices, and of seats
abbrev pub indices_of : Race → ℕ
indices_of r = r.n

abbrev pub seats_of : Race → ℕ
seats_of r = r.table.shared.key.seats

-- the seat is of this race
abbrev pub IsSeatOf : Race → RaceSeat → Type 0
IsSeatOf r s = (s.seat.table_id ≡ r.table.shared.table_id) × (s.seat.me.0.n ≡ r.n)

-- a new seat: it stands for one, and has claimed nothing
pub record IsNewSeatOf (r : Race) (s : RaceSeat) : Type 0 where
  pub of_race : IsSeatOf r s
  pub one : stands s ≡ 1
  pub unused : draws s ≡ no_draws
  pub no_looks : looks s ≡ 0

-- the seat is of this race, and stands for as many as before
pub record IsSameSeat (r : Race) (before after : RaceSeat) : Type 0 where
  pub of_race : IsSeatOf r after
  pub same_stands : stands after ≡ stands before
