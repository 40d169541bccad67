use Rattle.bx_desk.proofs.Printing.{prints_then, prints_as}
use Rattle.bx_draw.proofs.Drawn.{legend_drawn}
use Rattle.bx_draw.proofs.picture.print_legend.Goals as goal

pub returns : goal.returns
returns g c = prints_as (legend_drawn c.args.ratio _ _ _ c.from.ensures c.from-2.ensures c.from-3.ensures)
    (prints_then c.words.ensures (prints_then c.print_lines.ensures c.words-2.ensures))
