-- The lines that were passed over are none of those to be read.
use Rattle.std.proofs.Common.{◌≡◌, ◌+◌, ◌≤◌, length}
use Rattle.bx_dimacs.specs.Words.{lines_of, lines_from}
use Rattle.bx_dimacs.proofs.scan.Lines.next.Given as goal

abbrev pub invariant-loop-line : goal.invariant-loop-line
invariant-loop-line l =
    (length l.self.rest.now ≤ length l.initial.self.rest.now)
    × (lines_from (l.initial.self.number + 1) l.initial.self.rest.now ≡ lines_from (l.self.number + 1) l.self.rest.now)
    × (l.self.number + length (lines_of l.self.rest.now) ≡ l.initial.self.number + length (lines_of l.initial.self.rest.now))

abbrev pub decreases-loop-line : goal.decreases-loop-line
decreases-loop-line l = length l.self.rest.now
