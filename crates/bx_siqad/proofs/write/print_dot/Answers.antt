use Rattle.bx_desk.proofs.Printing.{prints_as}
use Rattle.bx_siqad.proofs.Written.{dot_written}
use Rattle.bx_siqad.proofs.write.print_dot.Goals as goal

pub returns : goal.returns
returns g c = prints_as (dot_written c.args.dot _ _ _ c.from.ensures c.from-2.ensures c.from-3.ensures) c.print_line.ensures
