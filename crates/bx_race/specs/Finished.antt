-- What is known of a race once all its seats are one.
use Rattle.std.specs.Prelude.{◌≡◌, ℕ, ◌+◌, List, ◌++◌, flat_map, min, sum_by, All, IsTrue}
use Rattle.bx_race.specs.declared.finished.Finished.{Finished}
use Rattle.bx_race.specs.declared.seat.RaceSeat.{RaceSeat}
use Rattle.bx_race.specs.declared.view.Draws.{Draws}
use Rattle.bx_race.specs.declared.view.View.{View}
use Rattle.bx_race.specs.Draws.{times, has_ended}
use Rattle.bx_race.specs.Fair.{once_below}
use Rattle.bx_race.specs.Seats.{draws, looks, stands}

-- what the seats of the race know together
abbrev pub total : Finished → View
total f = f.whole.me.0

abbrev pub least_of : Finished → ℕ
least_of f = f.least

-- it has the lists of these seats one behind the other, and their numbers added up
pub record IsTogether (seats : List RaceSeat) (v : View) : Type 0 where
  pub done : v.draws.done ≡ flat_map (λ s. (draws s).done) seats
  pub offered : v.draws.offered ≡ flat_map (λ s. (draws s).offered) seats
  pub dropped : v.draws.dropped ≡ flat_map (λ s. (draws s).dropped) seats
  pub past : v.draws.past ≡ sum_by (λ s. (draws s).past) seats
  pub looks : v.looks ≡ sum_by looks seats
  pub stands : v.stands ≡ sum_by stands seats

-- all indices for which it is known what became of them
abbrev pub decided : Draws → List ℕ
decided d = d.done ++ d.offered ++ d.dropped

-- so many claims were made, and the indices that they drew are decided, each once
pub record AreClaims (n claims : ℕ) (d : Draws) : Type 0 where
  pub once : (i : ℕ) → times i (decided d) ≡ once_below (min n claims) i
  pub counted : claims ≡ min n claims + d.past

-- each seat has offered, dropped or drawn n or more
abbrev pub HaveEnded : List RaceSeat → Type 0
HaveEnded seats = All (λ s. IsTrue (has_ended (draws s))) seats
