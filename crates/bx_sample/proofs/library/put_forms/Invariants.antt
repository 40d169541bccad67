-- The forms so far were put.
use Rattle.std.proofs.Common.{◌≡◌, ◌++◌, take, string_bytes}
use Rattle.std.specs.List.{flat_map}
use Rattle.bx_sample.specs.Library.{form_text}
use Rattle.bx_sample.proofs.library.put_forms.Given as goal

abbrev pub invariant-loop-form : goal.invariant-loop-form
invariant-loop-form l = string_bytes l.text ≡ string_bytes l.initial.text ++ flat_map form_text (take l.form-index l.form-items)
