use Rattle.std.proofs.Common.{ℕ, ◌-◌, ◌<◌, ◌≤◌, length}
use Rattle.bx_forms.specs.Forms.{form_count}
use Rattle.bx_library.specs.Alike.{AreSame}
use Rattle.bx_library.specs.Drawn.{lists_of}
use Rattle.bx_library.proofs.alike.check_pairs.Given as goal

abbrev pub invariant-firsts : goal.invariant-firsts
invariant-firsts l = record {
  low : l.number ≤ form_count;
  none : (f g : ℕ) → f < l.number → AreSame (lists_of l.all) f g → ⊥;
}

abbrev pub decreases-firsts : goal.decreases-firsts
decreases-firsts l = form_count - l.number
