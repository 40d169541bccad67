use Rattle.bx_desk.proofs.Printing.{prints_then}
use Rattle.bx_cert.proofs.write.print_worded.Goals as goal

pub returns : goal.returns
returns g c = prints_then c.bytes.ensures c.print_numbers.ensures
