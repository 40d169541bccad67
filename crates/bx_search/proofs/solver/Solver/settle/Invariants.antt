use Rattle.std.proofs.Common.{◌-◌, length}
use Rattle.bx_search.specs.Solving.{Moves}
use Rattle.bx_search.proofs.solver.Solver.settle.Given as goal

abbrev pub invariant-loop-id : goal.invariant-loop-id
invariant-loop-id l = Moves l.initial.self l.self

abbrev pub decreases-loop-id : goal.decreases-loop-id
decreases-loop-id l = l.self.clauses.now.vars - length l.self.trail.entries
