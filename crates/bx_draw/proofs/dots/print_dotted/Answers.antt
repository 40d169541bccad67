use Rattle.std.proofs.Common.{◌++◌, ap}
use Rattle.bx_desk.proofs.Printing.{prints_then, prints_as}
use Rattle.bx_draw.specs.Dotted.{dots_text}
use Rattle.bx_draw.specs.Frames.{stretched_text}
use Rattle.bx_draw.specs.Pictures.{body_text, labels_of}
use Rattle.bx_draw.proofs.dots.print_dotted.Goals as goal

pub returns : goal.returns
returns g c = prints_as
    (ap (λ r. stretched_text c.args.library.now r ++ (body_text c.args.grid.now (labels_of c.args.ports.now) c.args.places.now ++ dots_text c.args.dots.now)) c.ratio.ensures.same)
    (prints_then c.print_stretched.ensures (prints_then c.print_body.ensures c.print_dots.ensures))
