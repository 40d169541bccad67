use Rattle.bx_desk.proofs.Printing.{prints_then, prints_as}
use Rattle.bx_says.proofs.Printed.{row_is}
use Rattle.bx_says.proofs.rows.print_row.Goals as goal

pub returns : goal.returns
returns g c = prints_as (row_is c.args.y c.args.tiles.now) (prints_then c.bytes.ensures (prints_then c.further.ensures (prints_then c.print_tiles.ensures c.end_line.ensures)))
