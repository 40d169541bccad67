-- The workers of a race before and after it, and what the race comes to.
use Rattle.std.specs.Prelude.{◌≡◌, ◌⊎◌, ℕ, zero, suc, ◌+◌, ◌<◌, ◌≤◌, min, [], None, IsTrue, Contains}
use Rattle.bx_race.specs.declared.finished.Finished.{Finished}
use Rattle.bx_race.specs.declared.race.Race.{Race}
use Rattle.bx_race.specs.Draws.{has_ended, times}
use Rattle.bx_race.specs.Finished.{total, least_of}
use Rattle.bx_race.specs.Seats.{draws, looks, stands, IsNewSeatOf, IsSeatOf}
use Rattle.bx_workers.specs.Results.{room_of, tried_of}
use Rattle.bx_workers.specs.Working.{ratio_count, AreResults, CountsLooks, LookedFor}
use Rattle.bx_workers.specs.declared.problem.Problem.{Problem}
use Rattle.bx_workers.specs.declared.worker.Worker.{Worker}

-- without results, and with room for so many
abbrev pub IsUnused : ℕ → Worker → Type 0
IsUnused room w = (tried_of w.results ≡ []) × (room ≤ room_of w.results)

pub record IsNewWorker (p : Problem) (race : Race) (w : Worker) : Type 0 where
  pub seat : IsNewSeatOf race w.seat
  pub unused : IsUnused (ratio_count p) w

-- it came to its end, with its results, and looked for them
pub record HasWorked (p : Problem) (race : Race) (w : Worker) : Type 0 where
  pub of_race : IsSeatOf race w.seat
  pub one : stands w.seat ≡ 1
  pub idle : (draws w.seat).current ≡ None
  pub ended : IsTrue (has_ended (draws w.seat))
  pub results : AreResults p (draws w.seat) (tried_of w.results)
  pub looked : LookedFor p (tried_of w.results) 0 (looks w.seat)

-- the looks that are due for the first ratios, so many of them
abbrev pub due_below : (ℕ → ℕ) → ℕ → ℕ
due_below due zero = 0
due_below due (suc k) = due_below due k + due k

-- A race over the problem's ratios, with so many seats. Each index below the least is done, and the least was offered
-- if it is one; and the seats looked as often as is due for all of these.
pub record IsRaceOver (p : Problem) (seats : ℕ) (f : Finished) : Type 0 where
  pub indices : (total f).n ≡ ratio_count p
  pub stands_for : (total f).stands ≡ seats
  pub done : (k : ℕ) → k < least_of f → times k (total f).draws.done ≡ 1
  pub offered : (least_of f ≡ ratio_count p) ⊎ Contains (total f).draws.offered (least_of f)
  pub looked : (due : ℕ → ℕ) → CountsLooks p due
      → due_below due (min (least_of f + 1) (ratio_count p)) ≤ (total f).looks
