use Rattle.std.proofs.Common.{◌++◌, ap}
use Rattle.std.specs.Prelude.{codes}
use Rattle.bx_desk.proofs.Printing.{prints_then, prints_as}
use Rattle.bx_draw.specs.Frames.{head_text}
use Rattle.bx_draw.specs.Pictures.{body_text, labels_of}
use Rattle.bx_draw.proofs.picture.print_picture.Goals as goal

pub returns : goal.returns
returns g c = prints_as
    (ap (λ r. head_text r ++ (body_text c.args.grid.now (labels_of c.args.ports.now) c.args.places.now ++ codes "</svg>\n")) c.ratio.ensures.same)
    (prints_then c.print_head.ensures (prints_then c.print_body.ensures c.bytes.ensures))
