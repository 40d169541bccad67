-- What the piece is for can still be put to.
use Rattle.bx_desk.specs.Desk.{CanPut}
use Rattle.bx_desk.specs.Memory.{state_of, desk_of}
use Rattle.bx_desk.specs.Pieces.{target_of}
use Rattle.bx_tests_logic.proofs.pieces.put_all.Given as goal

abbrev pub invariant-loop-part : goal.invariant-loop-part
invariant-loop-part l = CanPut (target_of l.piece) (desk_of (state_of l.desk))
