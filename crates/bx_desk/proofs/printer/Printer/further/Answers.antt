use Rattle.bx_desk.proofs.Printing.{prints_then}
use Rattle.bx_desk.proofs.printer.Printer.further.Goals as goal

pub returns : goal.returns
returns g c = prints_then c.bytes.ensures c.word.ensures
