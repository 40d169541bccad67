-- The lines so far were printed.
use Rattle.std.proofs.Common.{take}
use Rattle.std.specs.List.{flat_map}
use Rattle.bx_desk.specs.Printing.{Prints}
use Rattle.bx_lines.specs.Lines.{ended}
use Rattle.bx_draw.proofs.picture.print_lines.Given as goal

abbrev pub invariant-loop-line : goal.invariant-loop-line
invariant-loop-line g l = Prints l.fn.printer l.printer (flat_map (λ line. ended line.now) (take l.line-index l.lines))
