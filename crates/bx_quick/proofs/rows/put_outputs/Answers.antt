use Rattle.std.proofs.Common.{◌∙◌, ◌++◌, ◌∷◌, [], ap}
use Rattle.bx_quick.proofs.Steps.{row-more}
use Rattle.bx_quick.proofs.rows.put_outputs.Goals as goal

pub loop-x-preserved : goal.loop-x-preserved
loop-x-preserved c =
    row-more c.loop-x.x _ _ c.loop-x.tiles.items _ c.loop-x.invariant
    (c.in_ok-push.ensures.items ∙ ap (λ tile. c.loop-x.tiles.items ++ tile ∷ []) c.output_tile-tile.ensures)
