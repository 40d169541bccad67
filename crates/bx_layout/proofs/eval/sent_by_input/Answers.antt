use Rattle.std.proofs.Common.{◌∙◌, sym, ap}
use Rattle.bx_forms.specs.Sides.{is_used}
use Rattle.bx_layout.proofs.Sending.{used-input}
use Rattle.bx_layout.proofs.eval.sent_by_input.Goals as goal

pub returns-then-is_used : goal.returns-then-is_used
returns-then-is_used c =
    used-input c.args.form c.args.value c.args.side c.requires
    (ap (λ sides. is_used sides c.args.side) (sym c.lower.ensures) ∙ sym c.is_used.ensures ∙ c.if-is_used.true)
