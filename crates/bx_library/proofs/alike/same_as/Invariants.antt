use Rattle.std.proofs.Common.{ℕ, ◌-◌, ◌<◌, ◌≤◌, length}
use Rattle.bx_forms.specs.Forms.{form_count}
use Rattle.bx_library.specs.Alike.{AreSame}
use Rattle.bx_library.specs.Drawn.{lists_of}
use Rattle.bx_library.proofs.alike.same_as.Given as goal

abbrev pub invariant-seconds : goal.invariant-seconds
invariant-seconds l = record {
  low : l.number ≤ form_count;
  behind : l.first < l.number;
  none : (g : ℕ) → g < l.number → AreSame (lists_of l.all) l.first g → ⊥;
}

abbrev pub decreases-seconds : goal.decreases-seconds
decreases-seconds l = form_count - l.number
