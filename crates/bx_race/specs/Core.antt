-- The core of a race: where it stands, and the events that bring it on, each one atomic step of one worker.
use Rattle.std.specs.Prelude.{◌≡◌, ◌⊎◌, ℕ, ◌+◌, ◌<◌, Bool, true, false, not, ◌&&◌, IsTrue, nat_lt, min, if◌then◌else◌, List, length, replicate, slice_index_or, slice_set, sum_by, Option, None, Some, is_some, unwrap_or, fold}
use Rattle.std.specs.List.{AllByRecursion}
use Rattle.bx_race.specs.declared.view.Draws.{Draws}
use Rattle.bx_race.specs.Draws.{no_draws, times, has_ended, claiming, offering, looking}

-- next: the number that the next claim draws
-- least: the least index that was offered, and the number of indices where none was
-- workers: what each worker drew
pub record Standing : Type 0 where
  pub next : ℕ
  pub least : ℕ
  pub workers : List Draws

-- what the worker of this number does
pub data Event : Type 0 where
  Claim : ℕ → Event
  Offer : ℕ → Event
  Look : ℕ → Event

abbrev pub worker_of : Event → ℕ
worker_of (Claim w) = w
worker_of (Offer w) = w
worker_of (Look w) = w

abbrev pub draws_at : List Draws → ℕ → Draws
draws_at workers w = slice_index_or workers w no_draws

-- whether the index is refuted, by a table with an entry for each
abbrev pub is_refuted : List Bool → ℕ → Bool
is_refuted table i = slice_index_or table i false

-- whether there is none, or a refuted one
abbrev pub is_settled : List Bool → Option ℕ → Bool
is_settled table None = true
is_settled table (Some i) = is_refuted table i

-- A worker may claim until it has ended, once its current index is refuted; it may offer and look while
-- an index is current.
abbrev pub allows : List Bool → Event → Draws → Bool
allows table (Claim w) d = not (has_ended d) && is_settled table d.current
allows table (Offer w) d = is_some d.current
allows table (Look w) d = is_some d.current

-- what the event leaves, where it is allowed
abbrev pub effect : ℕ → Event → Draws → Standing → Standing
effect n (Claim w) d s = record s { next = s.next + 1; workers = slice_set s.workers w (claiming n s.next d) }
effect n (Offer w) d s = record s { least = min s.least (unwrap_or d.current s.least); workers = slice_set s.workers w (offering d) }
effect n (Look w) d s = record s { workers = slice_set s.workers w (looking s.least d) }

-- An event that isn't allowed changes nothing.
abbrev pub after : List Bool → Standing → Event → Standing
after table s e = let d = draws_at s.workers (worker_of e) in
    if nat_lt (worker_of e) (length s.workers) && allows table e d then effect (length table) e d s else s

abbrev pub start : ℕ → ℕ → Standing
start n workers = record { next = 0; least = n; workers = replicate workers no_draws }

-- the race after these events
abbrev pub run : List Bool → ℕ → List Event → Standing
run table workers events = fold (after table) (start (length table) workers) events

abbrev pub AllEnded : Standing → Type 0
AllEnded s = AllByRecursion (λ d. IsTrue (has_ended d)) s.workers

-- how often the workers have done, and have offered, the index
abbrev pub times_done : ℕ → List Draws → ℕ
times_done i workers = sum_by (λ d. times i d.done) workers

abbrev pub times_offered : ℕ → List Draws → ℕ
times_offered i workers = sum_by (λ d. times i d.offered) workers

abbrev pub IsRefuted : List Bool → ℕ → Type 0
IsRefuted table i = IsTrue (is_refuted table i)

-- the first index that isn't refuted
pub record IsFirstUnrefuted (table : List Bool) (k : ℕ) : Type 0 where
  pub within : k < length table
  pub unrefuted : ¬ IsRefuted table k
  pub before : (i : ℕ) → i < k → IsRefuted table i

-- what a race comes to
pub record Settles (table : List Bool) (s : Standing) : Type 0 where
  -- each index below the least one is refuted, and stands in the list of one worker, once
  pub refuted : (i : ℕ) → i < s.least → IsRefuted table i
  pub done : (i : ℕ) → i < s.least → times_done i s.workers ≡ 1
  pub least : (s.least ≡ length table) ⊎ (0 < times_offered s.least s.workers)
  pub first : 0 < times_offered s.least s.workers → ¬ IsRefuted table s.least → IsFirstUnrefuted table s.least
