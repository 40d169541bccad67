use Rattle.std.proofs.Common.{◌≡◌, ◌+◌, ◌≤◌}
use Rattle.bx_fast.proofs.solver.Solver.run.Given as goal

abbrev pub invariant-turns : goal.invariant-turns
invariant-turns g l =
    g.P.Pulse.ready l.pulse
    × (g.P.Pulse.stops l.pulse ≡ g.P.Pulse.stops l.fn.pulse)
    × (g.P.Pulse.asked l.pulse ≤ g.P.Pulse.asked l.fn.pulse + l.turn)
    × g.P.Pulse.leads l.fn.pulse l.pulse
