use Rattle.bx_forms.specs.FormSets.{IsIn}
use Rattle.bx_quick.proofs.Steps.{form-next}
use Rattle.bx_quick.proofs.missing.used_forms.Goals as goal

pub loop-tile-preserved : goal.loop-tile-preserved
loop-tile-preserved c =
    form-next c.args.tiles.now c.loop-tile.tile-index c.tile-item.result (λ form. IsIn c.loop-tile.used form) (λ form. IsIn c.with_tile-used.result form)
    c.loop-tile-test.true c.tile-item.is c.loop-tile.invariant c.with_tile-used.ensures
