-- The bytes so far were put out.
use Rattle.std.proofs.Common.{take}
use Rattle.bx_desk.specs.Printing.{Prints}
use Rattle.bx_draw.specs.Escapes.{escaped}
use Rattle.bx_draw.proofs.escape.print_escaped.Given as goal

abbrev pub invariant-loop-byte : goal.invariant-loop-byte
invariant-loop-byte g l = Prints l.fn.printer l.printer (escaped (take l.byte-index l.name))
