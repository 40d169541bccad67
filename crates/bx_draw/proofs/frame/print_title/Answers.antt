use Rattle.bx_desk.proofs.Printing.{prints_as}
use Rattle.bx_draw.proofs.Framed.{title_drawn}
use Rattle.bx_draw.proofs.frame.print_title.Goals as goal

pub returns : goal.returns
returns g c = prints_as (title_drawn c.args.ratio _ _ c.args.end.now c.from.ensures c.from-2.ensures) c.words.ensures
