-- Calls on a desk, one after another, after a file was started: all but a further `start`.
use Rattle.std.specs.Prelude.{◌≡◌, ℕ, List, [], ◌∷◌, ◌++◌, ◌⊎◌}
use Rattle.bx_desk.specs.Desk.{DeskState, FailsToLoad, Writes, WritesFront, Says, SaysFront}

-- a `load`; an `append`, with the bytes that it wrote: its piece, or after a failure a front of it; a `say`
pub data Call : Type 0 where
  load : Call
  append : List ℕ → Call
  failed_append : List ℕ → Call
  say : List ℕ → Call

-- what each leaves
abbrev pub Leaves : Call → DeskState → DeskState → Type 0
Leaves load old new = (new ≡ old) ⊎ FailsToLoad old new
Leaves (append piece) old new = Writes old new piece
Leaves (failed_append front) old new = (piece : List ℕ) × (failed : WritesFront old new piece) × (front ≡ failed.front)
Leaves (say piece) old new = Says old new piece ⊎ SaysFront old new piece

-- what they leave, one after another
abbrev pub LeaveAll : List Call → DeskState → DeskState → Type 0
LeaveAll [] old new = new ≡ old
LeaveAll (call ∷ calls) old new = (mid : DeskState) × Leaves call old mid × LeaveAll calls mid new

-- the bytes that they wrote, in order
abbrev pub written : List Call → List ℕ
written [] = []
written (load ∷ calls) = written calls
written (append piece ∷ calls) = piece ++ written calls
written (failed_append front ∷ calls) = front ++ written calls
written (say piece ∷ calls) = written calls
