use Rattle.std.proofs.Common.{ℕ, ◌<◌}
use Rattle.bx_grid.specs.Orders.{order}
use Rattle.bx_verify.specs.Failing.{IsOff, named}
use Rattle.bx_verify.proofs.claims.first_off.Given as goal

abbrev pub invariant-loop-k : goal.invariant-loop-k
invariant-loop-k l = (j : ℕ) → j < l.k → ¬ IsOff (order l.fn.limits) (named l.sections l.found) j
