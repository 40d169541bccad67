use Rattle.bx_desk.proofs.Saying.{says_then, says_failed, says_as}
use Rattle.bx_engine.proofs.Lines.{layout-parts}
use Rattle.bx_engine.proofs.report.put_layout.Goals as goal

pub returns-in_err-say_pins : goal.returns-in_err-say_pins
returns-in_err-say_pins g c = says_as _ _ _ _ _ _ _ (layout-parts c.args.source.now.net c.args.source.now.mapped c.ratio-ratio.result c.as_slice-tiles.result.now c.args.laid.now c.ratio-ratio.ensures.same c.as_slice-tiles.ensures)
    (says_failed _ _ _ _ _ _ _ _ _ c.in_err-say_pins.was c.from_residual.ensures.0 c.say_pins.ensures)

pub returns : goal.returns
returns g c = says_as _ _ _ _ _ _ _ (layout-parts c.args.source.now.net c.args.source.now.mapped c.ratio-ratio.result c.as_slice-tiles.result.now c.args.laid.now c.ratio-ratio.ensures.same c.as_slice-tiles.ensures) (says_then _ _ _ _ _ _ _ _ _ _ _ c.in_ok-say_pins.was c.say_pins.ensures c.say_rows.ensures)
