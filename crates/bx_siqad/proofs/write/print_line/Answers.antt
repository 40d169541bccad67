use Rattle.bx_desk.proofs.Printing.{prints_then, prints_as}
use Rattle.bx_siqad.proofs.write.print_line.Goals as goal

pub returns : goal.returns
returns g c = prints_then c.print_fields.ensures (prints_then (prints_as c.as_bytes.ensures.value c.bytes.ensures) c.end_line.ensures)
