use Rattle.std.proofs.Common.{◌≡◌, ℕ, List, Bor, ap, arith}
use Rattle.bx_forms.specs.declared.table.Shape.{Shape}
use Rattle.bx_forms.specs.Forms.{IsForm, form_name}
use Rattle.bx_forms.proofs.Lines.{get_or-map, get_or-slice_get}
use Rattle.bx_forms.proofs.form.Form.name.Goals as goal

pub returns : goal.returns
returns c =
    let h : IsForm c.from.result = omega arith in
    let e : c.from.result ≡ c.args.self = omega arith in
    rw (get_or-map (λ (line : Bor (List ℕ) × Shape). line.0.now), get_or-slice_get) (ap form_name e)
