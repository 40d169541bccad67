use Rattle.bx_desk.proofs.Printing.{prints_as}
use Rattle.bx_draw.proofs.Framed.{inner_drawn}
use Rattle.bx_draw.proofs.frame.print_inner.Goals as goal

pub returns : goal.returns
returns g c = prints_as (inner_drawn c.args.library.now c.args.ratio _ _ _ _ _ _
    c.left.ensures c.top.ensures c.across.ensures c.down.ensures c.from.ensures c.from-2.ensures) c.words.ensures
