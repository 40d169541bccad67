-- The dots so far were printed.
use Rattle.std.proofs.Common.{take}
use Rattle.std.specs.List.{flat_map}
use Rattle.bx_desk.specs.Printing.{Prints}
use Rattle.bx_draw.specs.Dotted.{dot_text}
use Rattle.bx_draw.proofs.dots.print_each.Given as goal

abbrev pub invariant-loop-dot : goal.invariant-loop-dot
invariant-loop-dot g l = Prints l.fn.printer l.printer (flat_map dot_text (take l.dot-index l.dots))
