use Rattle.bx_desk.proofs.Printing.{prints_then}
use Rattle.bx_draw.proofs.frame.print_stretched.Goals as goal

pub returns : goal.returns
returns g c = prints_then c.print_start.ensures (prints_then c.print_box.ensures (prints_then c.print_title.ensures
    (prints_then c.print_inner.ensures (prints_then c.print_frame.ensures c.bytes.ensures))))
