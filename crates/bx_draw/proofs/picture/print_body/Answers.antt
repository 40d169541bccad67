use Rattle.bx_desk.proofs.Printing.{prints_then, prints_as}
use Rattle.bx_draw.proofs.Drawn.{body_drawn}
use Rattle.bx_draw.proofs.picture.print_body.Goals as goal

pub returns : goal.returns
returns g c = prints_as
    (body_drawn c.args.grid.now c.args.ports.now c.args.places.now c.ratio-ratio.result _ c.ratio-ratio.ensures.same c.from.ensures)
    (prints_then c.print_lines.ensures (prints_then c.print_tiles.ensures (prints_then c.print_ports.ensures c.print_legend.ensures)))
