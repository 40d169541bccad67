use Rattle.std.proofs.Common.{◌≡◌, ℕ, ◌+◌, ◌<◌, [], length, Some}
use Rattle.std.specs.Prelude.{◌↔◌, slice_get}
use Rattle.bx_proof.specs.Steps.{Step}
use Rattle.bx_check.proofs.checker.is_ended.Given as goal

abbrev pub invariant-loop-k : goal.invariant-loop-k
invariant-loop-k l = (j : ℕ) (step : Step) → j < l.k → slice_get l.steps.steps j ≡ Some step → (step.literals ≡ []) ↔ (j + 1 ≡ length l.steps.steps)
