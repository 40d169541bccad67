use Rattle.bx_desk.proofs.Printing.{prints_as}
use Rattle.bx_siqad.proofs.Written.{ratio_written}
use Rattle.bx_siqad.proofs.write.print_ratio.Goals as goal

pub returns : goal.returns
returns g c = prints_as (ratio_written c.args.ratio _ _ c.from.ensures c.from-2.ensures) c.print_line.ensures
