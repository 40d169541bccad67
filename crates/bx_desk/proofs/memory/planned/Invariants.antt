-- The plans passed so far are for other calls.
use Rattle.std.proofs.Common.{◌≡◌, drop}
use Rattle.bx_desk.specs.Plans.{kept_at}
use Rattle.bx_desk.proofs.memory.planned.Given as goal

abbrev pub invariant-loop-plan : goal.invariant-loop-plan
invariant-loop-plan l = kept_at (drop l.plan-index l.plans) l.number ≡ kept_at l.plans l.number
