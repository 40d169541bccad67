use Rattle.bx_desk.proofs.Printing.{prints_then, prints_as}
use Rattle.bx_siqad.proofs.Written.{design_written}
use Rattle.bx_siqad.proofs.write.print_design.Goals as goal

pub returns : goal.returns
returns g c =
    prints_as (design_written c.args.ratio c.args.dots.now)
    (prints_then c.print_lines.ensures (prints_then c.print_ratio.ensures (prints_then c.print_lines-2.ensures (prints_then c.print_dots.ensures c.print_lines-3.ensures))))
