use Rattle.bx_desk.proofs.Printing.{prints_then, prints_as}
use Rattle.bx_draw.proofs.Drawn.{tile_drawn}
use Rattle.bx_draw.proofs.picture.print_tile.Goals as goal

pub returns : goal.returns
returns g c = prints_as (tile_drawn c.args.x c.args.y _ _ c.args.tile c.args.node c.symbol_of.ensures c.middle.ensures)
    (prints_then c.words.ensures (prints_then c.print_node.ensures c.words-2.ensures))
