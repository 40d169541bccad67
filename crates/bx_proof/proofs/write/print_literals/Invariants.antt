-- The literals so far were printed.
use Rattle.std.proofs.Common.{take}
use Rattle.bx_cnf.specs.Literals.{literal_text}
use Rattle.bx_desk.specs.Printing.{Prints}
use Rattle.bx_proof.proofs.Closed.{items_text}
use Rattle.bx_proof.proofs.write.print_literals.Given as goal

abbrev pub invariant-loop-literal : goal.invariant-loop-literal
invariant-loop-literal g l = Prints l.fn.printer l.printer (items_text literal_text (take l.literal-index l.literals))
