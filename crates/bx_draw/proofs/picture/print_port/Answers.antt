use Rattle.bx_desk.specs.Words.{word_text}
use Rattle.bx_desk.proofs.Printing.{prints_nothing, prints_then, prints_as}
use Rattle.bx_draw.proofs.Drawn.{port_named}
use Rattle.bx_draw.proofs.picture.print_port.Goals as goal

pub returns : goal.returns
returns g c = prints_as
    (port_named c.args.rows c.args.port.now c.row_beside-row.result c.from.result c.middle.result (word_text c.height_of.result)
    c.row_beside-row.ensures c.from.ensures c.middle.ensures c.height_of.ensures)
    (prints_then c.words.ensures (prints_then c.print_escaped.ensures (prints_then c.bytes.ensures (prints_nothing _))))
