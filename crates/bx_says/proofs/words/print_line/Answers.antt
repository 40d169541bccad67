use Rattle.bx_desk.proofs.Printing.{prints_as}
use Rattle.bx_says.proofs.Printed.{line_is}
use Rattle.bx_says.proofs.words.print_line.Goals as goal

pub returns : goal.returns
returns g c = prints_as (line_is c.args.first.now c.args.further.now) c.line.ensures
