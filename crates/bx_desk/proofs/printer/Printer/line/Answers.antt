use Rattle.bx_desk.proofs.Printing.{prints_then}
use Rattle.bx_desk.proofs.printer.Printer.line.Goals as goal

pub returns : goal.returns
returns g c = prints_then c.bytes.ensures (prints_then c.further_words.ensures c.end_line.ensures)
