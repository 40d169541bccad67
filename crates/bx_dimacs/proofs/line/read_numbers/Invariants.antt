-- The numbers so far stand in front of those of what is left.
use Rattle.std.proofs.Common.{◌≡◌, length}
use Rattle.bx_dimacs.specs.ProofTexts.{behind_numbers, numbers_of}
use Rattle.bx_dimacs.specs.Words.{words_of}
use Rattle.bx_dimacs.proofs.line.read_numbers.Given as goal

abbrev pub invariant-loop-word : goal.invariant-loop-word
invariant-loop-word l = numbers_of (words_of l.line) ≡ behind_numbers l.numbers.items (numbers_of (words_of l.rest))

abbrev pub decreases-loop-word : goal.decreases-loop-word
decreases-loop-word l = length l.rest
