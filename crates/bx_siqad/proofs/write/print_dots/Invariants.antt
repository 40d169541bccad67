-- The dots so far were printed.
use Rattle.std.proofs.Common.{take}
use Rattle.std.specs.List.{flat_map}
use Rattle.bx_desk.specs.Printing.{Prints}
use Rattle.bx_lines.specs.Lines.{ended}
use Rattle.bx_siqad.specs.Texts.{dot_line}
use Rattle.bx_siqad.proofs.write.print_dots.Given as goal

abbrev pub invariant-loop-dot : goal.invariant-loop-dot
invariant-loop-dot g l = Prints l.fn.printer l.printer (flat_map (λ dot. ended (dot_line dot)) (take l.dot-index l.dots))
