use Rattle.std.proofs.Common.{◌∷◌, arith}
use Rattle.bx_desk.specs.Words.{word_text}
use Rattle.bx_desk.proofs.Printing.{prints_nothing, prints_turn}
use Rattle.bx_desk.proofs.printer.Printer.further_words.Goals as goal

pub loop-word-init : goal.loop-word-init
loop-word-init g c = prints_nothing _

pub loop-word-preserved : goal.loop-word-preserved
loop-word-preserved g c = prints_turn (λ word. 32 ∷ word_text word) c.args.words.now c.loop-word.word-index _ (omega arith) c.loop-word.invariant c.further.ensures
