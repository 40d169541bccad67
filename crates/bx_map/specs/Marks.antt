-- Marks: whether each number below one is in a list.
use Rattle.std.specs.Prelude.{ℕ, ◌≡◌, ◌<◌, Bool, true, false, if◌then◌else◌, List, [], ◌∷◌, length, slice_index_or, slice_set}
use Rattle.bx_map.specs.Walks.{has}
use Rattle.bx_map.specs.declared.walk.Frame.{Frame}

pub record AreMarks (n : ℕ) (xs : List ℕ) (marks : List Bool) : Type 0 where
  pub whole : length marks ≡ n
  pub each : (i : ℕ) → i < n → slice_index_or marks i false ≡ has xs i

-- these numbers are marked too
abbrev pub with_marks : List Bool → List ℕ → List Bool
with_marks marks [] = marks
with_marks marks (i ∷ is) = with_marks (slice_set marks i true) is

-- a frame for a net that isn't marked
abbrev pub frame_for : List Bool → ℕ → List Frame
frame_for marks n = if slice_index_or marks n false then [] else record { net = n; next = 0 } ∷ []
