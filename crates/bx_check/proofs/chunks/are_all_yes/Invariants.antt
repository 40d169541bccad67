use Rattle.std.proofs.Common.{◌≡◌, true, take, Ok}
use Rattle.std.specs.Prelude.{All}
use Rattle.bx_check.proofs.chunks.are_all_yes.Given as goal

abbrev pub invariant-loop-answer : goal.invariant-loop-answer
invariant-loop-answer l = All (λ a. a ≡ Ok true) (take l.answer-index l.answers)
