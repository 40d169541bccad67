-- A wire, or a double or a cross.
use Rattle.std.proofs.Common.{sym, ap, subst, ◌∙◌}
use Rattle.std.specs.Prelude.{◌&&◌}
use Rattle.std.proofs.lemmas.Result.{IfOk-weaker}
use Rattle.bx_forms.specs.declared.side.Sides.{Sides}
use Rattle.bx_forms.specs.Forms.{IsForm}
use Rattle.bx_encode.proofs.Adding.{adds-by}
use Rattle.bx_encode.proofs.Barring.{two-is, one-is}
use Rattle.bx_encode.proofs.permitted.add_bars_free.Goals as goal

pub returns-then-is_both : goal.returns-then-is_both
returns-then-is_both c =
    IfOk-weaker c.add_bars_two.result _ _
    (λ _ adds. adds-by _ _ _ _ (two-is _ _ c.args.spot.tile c.args.form c.way_of.result (subst IsForm c.number-number.ensures.same c.number-number.ensures.form) c.requires.free (ap (λ (s : Sides). s.left && s.right) (sym c.upper.ensures) ∙ sym c.is_both.ensures ∙ c.if-is_both.true) c.way_of.ensures) adds)
    c.add_bars_two.ensures

pub returns-else-is_both : goal.returns-else-is_both
returns-else-is_both c =
    IfOk-weaker c.add_bars_wire.result _ _
    (λ _ adds. adds-by _ _ _ _ (one-is _ _ c.args.spot.tile c.args.form c.args.spot.upper c.args.spot.lower (subst IsForm c.number-number.ensures.same c.number-number.ensures.form) c.requires.free (ap (λ (s : Sides). s.left && s.right) (sym c.upper.ensures) ∙ sym c.is_both.ensures ∙ c.if-is_both.false) c.requires.upper c.requires.lower) adds)
    c.add_bars_wire.ensures
