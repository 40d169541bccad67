use Rattle.bx_desk.proofs.Printing.{prints_as}
use Rattle.bx_draw.proofs.Framed.{dot_drawn}
use Rattle.bx_draw.proofs.dots.print_dot.Goals as goal

pub returns : goal.returns
returns g c = prints_as (dot_drawn c.args.dot _ _ _ c.from.ensures c.from-2.ensures c.from-3.ensures) c.words.ensures
