use Rattle.std.proofs.Common.{◌-◌}
use Rattle.bx_search.proofs.Going.{IsRunning}
use Rattle.bx_search.proofs.solver.Solver.run.Given as goal

abbrev pub invariant-loop-pulse : goal.invariant-loop-pulse
invariant-loop-pulse g l =
    IsRunning l.fn.self.clauses.now l.budget l.self (g.P.Pulse.asked l.fn.pulse) (g.P.Pulse.asked l.pulse) (g.P.Pulse.stops l.fn.pulse) (g.P.Pulse.stops l.pulse)
    × g.P.Pulse.ready l.pulse × g.P.Pulse.leads l.fn.pulse l.pulse

abbrev pub decreases-loop-pulse : goal.decreases-loop-pulse
decreases-loop-pulse g l = l.budget - l.self.spent
