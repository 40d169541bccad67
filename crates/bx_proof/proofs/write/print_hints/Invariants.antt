-- The hints so far were printed.
use Rattle.std.proofs.Common.{take}
use Rattle.std.specs.Prelude.{decimal}
use Rattle.bx_desk.specs.Printing.{Prints}
use Rattle.bx_proof.proofs.Closed.{items_text}
use Rattle.bx_proof.proofs.write.print_hints.Given as goal

abbrev pub invariant-loop-hint : goal.invariant-loop-hint
invariant-loop-hint g l = Prints l.fn.printer l.printer (items_text decimal (take l.hint-index l.hints))
