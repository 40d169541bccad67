use Rattle.bx_desk.proofs.Printing.{prints_then}
use Rattle.bx_cert.proofs.write.print_line.Goals as goal

pub returns : goal.returns
returns g c = prints_then c.print_text.ensures c.end_line.ensures
