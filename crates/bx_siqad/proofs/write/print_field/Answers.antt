use Rattle.bx_desk.proofs.Printing.{prints_then, prints_as}
use Rattle.bx_siqad.proofs.write.print_field.Goals as goal

pub returns : goal.returns
returns g c = prints_then (prints_as c.as_bytes.ensures.value c.bytes.ensures) c.number.ensures
