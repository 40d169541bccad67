use Rattle.std.proofs.Common.{ap}
use Rattle.bx_desk.proofs.Printing.{prints_then, prints_as}
use Rattle.bx_lines.specs.Lines.{ended}
use Rattle.bx_draw.proofs.picture.print_line.Goals as goal

pub returns : goal.returns
returns g c = prints_as (ap ended c.as_bytes.ensures.value) (prints_then c.bytes.ensures c.end_line.ensures)
