-- The lines of the steps so far were printed.
use Rattle.std.proofs.Common.{take}
use Rattle.bx_lines.specs.Lines.{text_of}
use Rattle.bx_desk.specs.Printing.{Prints}
use Rattle.bx_proof.specs.Texts.{step_lines}
use Rattle.bx_proof.proofs.write.print_steps.Given as goal

abbrev pub invariant-loop-k : goal.invariant-loop-k
invariant-loop-k g l = Prints l.fn.printer l.printer (text_of (take l.k (step_lines l.fn.steps.first l.fn.steps.steps)))
