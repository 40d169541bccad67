use Rattle.bx_desk.proofs.Printing.{prints_then}
use Rattle.bx_draw.proofs.dots.print_dots.Goals as goal

pub returns : goal.returns
returns g c = prints_then c.bytes.ensures (prints_then c.print_each.ensures c.bytes-2.ensures)
