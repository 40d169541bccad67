use Rattle.std.proofs.Common.{arith}
use Rattle.bx_desk.specs.Words.{word_text}
use Rattle.bx_desk.proofs.Printing.{prints_nothing, prints_turn}
use Rattle.bx_desk.proofs.printer.Printer.words.Goals as goal

pub loop-word-init : goal.loop-word-init
loop-word-init g c = prints_nothing _

pub loop-word-preserved : goal.loop-word-preserved
loop-word-preserved g c = prints_turn word_text c.args.words.now c.loop-word.word-index _ (omega arith) c.loop-word.invariant c.word.ensures
