use Rattle.std.proofs.Common.{ℕ, ◌-◌, ◌<◌, ◌≤◌, [], length, get_or}
use Rattle.std.specs.Prelude.{◌↔◌}
use Rattle.bx_forms.specs.Forms.{form_count}
use Rattle.bx_forms.specs.FormSets.{IsIn}
use Rattle.bx_library.specs.Drawn.{lists_of}
use Rattle.bx_library.proofs.library.offered.Given as goal

abbrev pub invariant-forms : goal.invariant-forms
invariant-forms l = record {
  low : l.number ≤ form_count;
  told : (f : ℕ) → IsIn l.set f ↔ ((f < l.number) × (0 < length (get_or (lists_of l.all) f [])));
}

abbrev pub decreases-forms : goal.decreases-forms
decreases-forms l = form_count - l.number
