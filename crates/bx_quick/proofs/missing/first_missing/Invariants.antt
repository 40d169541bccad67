use Rattle.std.proofs.Common.{ℕ, ◌<◌}
use Rattle.bx_forms.specs.FormSets.{IsIn}
use Rattle.bx_quick.proofs.missing.first_missing.Given as goal

abbrev pub invariant-loop-number : goal.invariant-loop-number
invariant-loop-number l = (other : ℕ) → other < l.number → IsIn l.used other → IsIn l.forms other
