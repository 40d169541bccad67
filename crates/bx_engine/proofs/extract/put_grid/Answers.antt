use Rattle.bx_desk.proofs.Saying.{says_then, says_failed, says_as}
use Rattle.bx_engine.proofs.Lines.{grid-parts}
use Rattle.bx_engine.proofs.extract.put_grid.Goals as goal

pub returns-in_err-put_ratio : goal.returns-in_err-put_ratio
returns-in_err-put_ratio g c = says_as _ _ _ _ _ _ _ (grid-parts c.ratio.result c.args.grid.now c.args.sound c.ratio.ensures.same)
    (says_failed _ _ _ _ _ _ _ _ _ c.in_err-put_ratio.was c.from_residual.ensures.0 c.put_ratio.ensures)

pub returns-in_err-say_rows : goal.returns-in_err-say_rows
returns-in_err-say_rows g c = says_as _ _ _ _ _ _ _ (grid-parts c.ratio.result c.args.grid.now c.args.sound c.ratio.ensures.same)
    (says_then _ _ _ _ _ _ _ _ _ _ _ c.in_ok-put_ratio.was c.put_ratio.ensures (says_failed _ _ _ _ _ _ _ _ _ c.in_err-say_rows.was c.from_residual-in_err-say_rows.ensures.0 c.say_rows.ensures))

pub returns : goal.returns
returns g c = says_as _ _ _ _ _ _ _ (grid-parts c.ratio.result c.args.grid.now c.args.sound c.ratio.ensures.same)
    (says_then _ _ _ _ _ _ _ _ _ _ _ c.in_ok-put_ratio.was c.put_ratio.ensures (says_then _ _ _ _ _ _ _ _ _ _ _ c.in_ok-say_rows.was c.say_rows.ensures c.put_sound.ensures))
