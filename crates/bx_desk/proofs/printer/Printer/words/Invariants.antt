-- The words so far were put out.
use Rattle.std.proofs.Common.{take}
use Rattle.bx_desk.specs.Printing.{Prints}
use Rattle.bx_desk.specs.Words.{joined_text}
use Rattle.bx_desk.proofs.printer.Printer.words.Given as goal

abbrev pub invariant-loop-word : goal.invariant-loop-word
invariant-loop-word g l = Prints l.fn.self l.self (joined_text (take l.word-index l.words))
