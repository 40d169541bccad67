-- What is put into a piece, and what of it has been handed on to a desk.
use Rattle.std.specs.Prelude.{◌≡◌, ℕ, List, ◌++◌, take, Result, MatchResult}
use Rattle.bx_desk.specs.Desk.{DeskState, CanPut, Puts, PutsFront}
use Rattle.bx_desk.specs.declared.desk.Failed.{Failed}
use Rattle.bx_desk.specs.declared.piece.Piece.{Piece}
use Rattle.bx_desk.specs.declared.target.Target.{Target}
use Rattle.bx_desk.specs.declared.target.Target.TheVariants.{Output, File}

-- the bytes put and not yet handed on
abbrev pub pending : Piece → List ℕ
pending piece = take piece.len piece.buffer

-- where they are handed on to
abbrev pub target_of : Piece → Target
target_of piece = piece.target

abbrev pub IsToSay : Piece → Type 0
IsToSay piece = target_of piece ≡ Output

abbrev pub IsToFile : Piece → Type 0
IsToFile piece = target_of piece ≡ File

-- of these bytes all but this rest, at their end, were put there, and nothing else changed
pub record PutsUpTo (target : Target) (old new : DeskState) (bytes rest : List ℕ) : Type 0 where
  pub done : List ℕ
  pub split : done ++ rest ≡ bytes
  pub puts : Puts target old new done

-- Ok: the desk got all of the text but what is pending now. Else it failed, and got a front of the text.
abbrev pub HandsOn : {T E : Type 0} → Result T E → Target → DeskState → DeskState → List ℕ → List ℕ → Type 0
HandsOn result target old new text rest = MatchResult result (λ _. PutsUpTo target old new text rest) (λ _. PutsFront target old new text)

-- The text went behind what the piece held, and what isn't held now was handed on, in order, all of it or
-- after a failure a front. Nothing else changed but the count of such failures, and the piece has the same
-- target.
pub record PutsOut {T : Type 0} (old new : DeskState) (result : Result T Failed) (before after : Piece) (text : List ℕ) : Type 0 where
  pub hands_on : HandsOn result (target_of before) old new (pending before ++ text) (pending after)
  pub target_stays : target_of after ≡ target_of before
  pub can : CanPut (target_of after) new
