use Rattle.std.proofs.Common.{◌≡◌, length}
use Rattle.bx_search.specs.Searching.{up_to}
use Rattle.bx_search.specs.Solving.{state_of, Becomes}
use Rattle.bx_search.proofs.solver.Solver.backtrack.Given as goal

abbrev pub invariant-loop-self : goal.invariant-loop-self
invariant-loop-self l =
    Becomes l.initial.self l.self (record (state_of l.initial.self) { trail = l.self.trail.entries })
    × (up_to l.level l.self.trail.entries ≡ up_to l.level l.initial.self.trail.entries)

abbrev pub decreases-loop-self : goal.decreases-loop-self
decreases-loop-self l = length l.self.trail.entries
