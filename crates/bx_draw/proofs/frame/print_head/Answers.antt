use Rattle.bx_desk.proofs.Printing.{prints_then}
use Rattle.bx_draw.proofs.frame.print_head.Goals as goal

pub returns : goal.returns
returns g c = prints_then c.print_start.ensures (prints_then c.print_frame.ensures c.print_title.ensures)
