-- What is left of the line says what the line does, of what was read so far.
use Rattle.std.proofs.Common.{◌≡◌, length}
use Rattle.bx_dimacs.specs.Words.{words_of}
use Rattle.bx_dimacs.specs.FormulaTexts.{FormulaText, with_words}
use Rattle.bx_dimacs.specs.Shown.{Shows}
use Rattle.bx_dimacs.proofs.formula.Reading.read_line.Given as goal

abbrev pub invariant-loop-word : goal.invariant-loop-word
invariant-loop-word l = (text : FormulaText) → Shows l.initial.self text
    → (now : FormulaText) × Shows l.self now × (with_words text (words_of l.line) ≡ with_words now (words_of l.rest))

abbrev pub decreases-loop-word : goal.decreases-loop-word
decreases-loop-word l = length l.rest
