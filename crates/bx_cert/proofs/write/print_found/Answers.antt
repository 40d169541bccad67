use Rattle.std.proofs.Common.{◌++◌, ap, ◌∙◌}
use Rattle.std.specs.List.{flat_map}
use Rattle.bx_desk.proofs.Printing.{prints_then, prints_as}
use Rattle.bx_lines.specs.Lines.{ended}
use Rattle.bx_cert.specs.declared.line.Line.TheVariants.{FoundAt, Place}
use Rattle.bx_cert.specs.Texts.{line_text}
use Rattle.bx_cert.proofs.Written.{found_is}
use Rattle.bx_cert.proofs.write.print_found.Goals as goal

pub returns : goal.returns
returns g c =
    prints_as (ap (λ xs. ended (line_text (FoundAt c.args.ratio)) ++ flat_map (λ s. ended (line_text (Place s))) xs) c.as_slice.ensures ∙ found_is c.args.ratio c.args.spots.now)
    (prints_then c.print_line.ensures c.print_spots.ensures)
