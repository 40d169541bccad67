-- Stamps that say which of two variables stands nearer the front, and the place from which the search for a free
-- one starts.
use Rattle.std.specs.Prelude.{◌==◌, ◌≡◌, ◌≢◌, ◌<◌, ◌≤◌, ◌+◌, ◌-◌, ◌^◌, ℕ, Bool, true, false, nat_lt, if◌then◌else◌, List, [], ◌∷◌, length, slice_index, slice_index_or, slice_set, ⊤}
use Rattle.std.specs.List.{AllByRecursion}
use Rattle.bx_queue.specs.Queue.{IsQueue}
use Rattle.bx_queue.specs.Ring.{behind}

-- each variable's stamp is above 0, and above the stamps of those behind it
abbrev pub DoFall : List ℕ → List ℕ → Type 0
DoFall stamps [] = ⊤
DoFall stamps (x ∷ xs) = (0 < slice_index stamps x) × AllByRecursion (λ y. slice_index stamps y < slice_index stamps x) xs × DoFall stamps xs

-- the stamps, where falling numbers from this one on are written along the list
abbrev pub numbering : List ℕ → ℕ → List ℕ → List ℕ
numbering [] top stamps = stamps
numbering (x ∷ xs) top stamps = numbering xs (top - 1) (slice_set stamps x top)

-- every variable before the place is taken; no variable is at the place 0, so all are taken there
abbrev pub AreTakenBefore : ℕ → List Bool → List ℕ → Type 0
AreTakenBefore place taken [] = ⊤
AreTakenBefore place taken (x ∷ xs) = x ≢ place → (slice_index_or taken (x - 1) false ≡ true) × AreTakenBefore place taken xs

-- queue: each variable stands in the order, once
-- fall: stamps fall along the order
-- none: and 0, which is no variable, has a stamp below all
-- each, whole, few: there are as many stamps as variables and 0, as many variables in the order as marks, and a
-- number of 32 bits counts them
-- before, within: what stands before the place is taken, and the place is a variable or 0
pub record IsSearched (order : List ℕ) (taken : List Bool) (stamps : List ℕ) (place : ℕ) : Type 0 where
  pub queue : IsQueue (record { order = order; taken = taken })
  pub fall : DoFall stamps order
  pub none : slice_index stamps 0 ≡ 0
  pub each : length stamps ≡ length taken + 1
  pub whole : length order ≡ length taken
  pub few : length taken < 2 ^ 32
  pub before : AreTakenBefore place taken order
  pub within : place ≤ length taken

-- the one of the two that stands nearer the front
abbrev pub nearer : List ℕ → ℕ → ℕ → ℕ
nearer stamps v place = if nat_lt (slice_index stamps place) (slice_index stamps v) then v else place

-- where the search starts when the variable stands first: at it if it is free, and else where it started, or behind
-- the variable where that was its place
abbrev pub place_after : List ℕ → List Bool → ℕ → ℕ → ℕ
place_after order taken place v = if slice_index_or taken (v - 1) false then (if place == v then behind v order else place) else v

-- the stamps when the first of this list is new there: above those of the others, or all of them anew
abbrev pub stamping : ℕ → List ℕ → List ℕ → ℕ → ℕ → List ℕ
stamping last order stamps v above = if nat_lt above last then slice_set stamps v (above + 1) else numbering order (length order) stamps
