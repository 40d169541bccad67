-- The lines of the unused inputs so far were printed.
use Rattle.std.proofs.Common.{take, length}
use Rattle.std.specs.List.{flat_map, range_with_len}
use Rattle.bx_desk.specs.Printing.{Prints}
use Rattle.bx_says.specs.Parts.{unused_text_at}
use Rattle.bx_says.proofs.head.print_unused.Given as goal

abbrev pub invariant-loop-port : goal.invariant-loop-port
invariant-loop-port g l = Prints l.fn.printer l.printer (flat_map (unused_text_at l.net l.mapped) (take l.port (range_with_len 0 (length l.net.inputs))))
