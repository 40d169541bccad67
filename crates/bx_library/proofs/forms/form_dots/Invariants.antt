use Rattle.std.proofs.Common.{◌≡◌, ℕ, ◌-◌, ◌<◌, ◌≤◌, [], length, get_or}
use Rattle.serde_json.specs.View.{view}
use Rattle.bx_forms.specs.Forms.{form_count}
use Rattle.bx_library.specs.Drawn.{IsDrawn, lists_of}
use Rattle.bx_library.specs.Faults.{IsFree, HasBadForm}
use Rattle.bx_library.specs.Values.{form_value, listed_dots}
use Rattle.bx_library.proofs.forms.form_dots.Given as goal

abbrev pub invariant-forms : goal.invariant-forms
invariant-forms l = record {
  low : l.number ≤ form_count;
  count : length l.all.items ≡ l.number;
  drawn : (f : ℕ) → f < l.number → IsDrawn l.fields.width l.fields.height (listed_dots (view l.fields.forms.now) f) (get_or (lists_of l.all.items) f []);
  fine : (f : ℕ) → f < l.number → IsFree (HasBadForm l.fields.width l.fields.height f (form_value (view l.fields.forms.now) f));
}

abbrev pub decreases-forms : goal.decreases-forms
decreases-forms l = form_count - l.number
