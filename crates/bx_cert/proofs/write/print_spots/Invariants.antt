-- The lines of the places so far were printed.
use Rattle.std.proofs.Common.{take}
use Rattle.std.specs.List.{flat_map}
use Rattle.bx_desk.specs.Printing.{Prints}
use Rattle.bx_lines.specs.Lines.{ended}
use Rattle.bx_cert.specs.declared.line.Line.TheVariants.{Place}
use Rattle.bx_cert.specs.Texts.{line_text}
use Rattle.bx_cert.proofs.write.print_spots.Given as goal

abbrev pub invariant-loop-spot : goal.invariant-loop-spot
invariant-loop-spot g l = Prints l.fn.printer l.printer (flat_map (λ spot. ended (line_text (Place spot))) (take l.spot-index l.spots))
