use Rattle.std.proofs.Common.{sym, ap}
use Rattle.bx_desk.proofs.Printing.{prints_then, prints_as}
use Rattle.bx_draw.specs.Pictures.{node_text}
use Rattle.bx_draw.proofs.picture.print_node.Goals as goal

pub returns-in-Some : goal.returns-in-Some
returns-in-Some g c = prints_as (ap node_text (sym c.in-Some.is)) (prints_then c.bytes.ensures c.number.ensures)
