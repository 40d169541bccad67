use Rattle.std.proofs.Common.{◌≡◌, length, take}
use Rattle.std.specs.List.{range_with_len}
use Rattle.bx_forms.specs.Forms.{form_count}
use Rattle.bx_forms.proofs.form.Form.all.Given as goal

abbrev pub invariant-loop-number : goal.invariant-loop-number
invariant-loop-number l = (length l.all ≡ form_count) × (take l.number l.all ≡ range_with_len 0 l.number)
