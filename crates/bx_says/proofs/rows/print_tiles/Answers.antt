use Rattle.std.proofs.Common.{ℕ, List, ◌∷◌, ◌∙◌, ap, arith}
use Rattle.bx_says.specs.Reports.{tile_name}
use Rattle.bx_desk.proofs.Printing.{prints_nothing, prints_turn, prints_as}
use Rattle.bx_says.proofs.rows.print_tiles.Goals as goal

pub loop-tile-init : goal.loop-tile-init
loop-tile-init g c = prints_nothing _

pub loop-tile-preserved : goal.loop-tile-preserved
loop-tile-preserved g c =
    prints_turn (λ tile. 32 ∷ tile_name tile) c.args.tiles.now c.loop-tile.tile-index c.tile-item.result (omega arith) c.loop-tile.invariant
    (prints_as (ap (λ (name : List ℕ). 32 ∷ name) (c.name_of.ensures ∙ ap tile_name c.tile-item.is)) c.further.ensures)
