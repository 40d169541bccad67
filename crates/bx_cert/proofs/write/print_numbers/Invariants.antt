-- The numbers so far were printed.
use Rattle.std.proofs.Common.{take}
use Rattle.bx_desk.specs.Printing.{Prints}
use Rattle.bx_cert.specs.Texts.{numbers}
use Rattle.bx_cert.proofs.write.print_numbers.Given as goal

abbrev pub invariant-loop-number : goal.invariant-loop-number
invariant-loop-number g l = Prints l.fn.printer l.printer (numbers (take l.number-index l.numbers))
