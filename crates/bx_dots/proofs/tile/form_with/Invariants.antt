use Rattle.std.proofs.Common.{ℕ, ◌-◌, ◌<◌, ◌≤◌, length}
use Rattle.bx_forms.specs.Forms.{form_count}
use Rattle.bx_dots.specs.Reading.{IsFormWith}
use Rattle.bx_dots.proofs.tile.form_with.Given as goal

abbrev pub invariant-forms : goal.invariant-forms
invariant-forms l = record {
  low : l.number ≤ form_count;
  none : (f : ℕ) → f < l.number → IsFormWith l.library l.group l.owns f → ⊥;
}

abbrev pub decreases-forms : goal.decreases-forms
decreases-forms l = form_count - l.number
