use Rattle.std.proofs.Common.{◌≡◌, Some, sym, subst, rules}
use Rattle.std.specs.Prelude.{OnOk}
use Rattle.serde_json.specs.View.{view}
use Rattle.bx_library.specs.Faults.{IsFree, HasBadForm}
use Rattle.bx_library.specs.Values.{form_value}
use Rattle.bx_library.proofs.forms.dots_at.Goals as goal

pub returns-in-Some-clause-fine : goal.returns-in-Some-clause-fine
returns-in-Some-clause-fine c =
    let is : form_value (view c.args.fields.now.forms.now) c.args.form ≡ Some (view c.in-Some.value.now) = search rules in
    subst (λ o. OnOk c.dots_of_form.result (IsFree (HasBadForm c.args.fields.now.width c.args.fields.now.height c.args.form o))) (sym is) c.dots_of_form.ensures.fine
