-- What stands behind makes the number of the word.
use Rattle.std.proofs.Common.{◌≡◌, ◌<◌, ◌^◌, length, drop}
use Rattle.bx_dimacs.specs.Words.{digits_behind}
use Rattle.bx_dimacs.proofs.scan.number_of.Given as goal

abbrev pub invariant-loop-byte : goal.invariant-loop-byte
invariant-loop-byte l = (digits_behind 0 l.word ≡ digits_behind l.number (drop l.byte-index l.word)) × (0 < length l.word) × (l.number < 2 ^ 64)
