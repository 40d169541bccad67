use Rattle.std.proofs.Common.{◌≢◌, All, take}
use Rattle.bx_tests_solver.proofs.trial.is_free.Given as goal

abbrev pub invariant-loop-other : goal.invariant-loop-other
invariant-loop-other l = All (λ m. m.var ≢ l.lit.var) (take l.other-index l.trail)
