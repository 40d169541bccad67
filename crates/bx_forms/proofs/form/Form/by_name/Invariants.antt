use Rattle.std.proofs.Common.{◌≡◌, ℕ, ◌<◌, Some}
use Rattle.bx_forms.specs.Forms.{form_name}
use Rattle.bx_forms.proofs.form.Form.by_name.Given as goal

abbrev pub invariant-loop-number : goal.invariant-loop-number
invariant-loop-number l = (k : ℕ) → k < l.number → form_name k ≡ Some l.text → ⊥
