use Rattle.std.proofs.Common.{◌≡◌, ◌++◌, ◌∙◌, ap, List, ℕ, take, string_bytes, arith}
use Rattle.std.specs.List.{flat_map}
use Rattle.bx_sample.specs.Library.{form_text}
use Rattle.bx_sample.proofs.library.put_forms.Goals as goal

pub returns : goal.returns
returns c =
    let all : c.loop-form.form-index ≡ 28 = omega arith in
    c.loop-form.invariant
    ∙ ap (λ n. string_bytes c.args.text.now ++ flat_map form_text (take n c.all-form-items.result)) all
    ∙ ap (λ (items : List ℕ). string_bytes c.args.text.now ++ flat_map form_text (take 28 items)) c.all-form-items.ensures
