-- The rows so far were printed.
use Rattle.std.proofs.Common.{take}
use Rattle.std.specs.List.{flat_map, range_with_len}
use Rattle.bx_desk.specs.Printing.{Prints}
use Rattle.bx_lines.specs.Lines.{ended}
use Rattle.bx_says.specs.Reports.{row_line}
use Rattle.bx_says.proofs.rows.print_rows.Given as goal

abbrev pub invariant-loop-y : goal.invariant-loop-y
invariant-loop-y g l = Prints l.fn.printer l.printer (flat_map (λ y. ended (row_line l.grid y)) (take l.y (range_with_len 0 l.grid.ratio.h)))
