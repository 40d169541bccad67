use Rattle.std.proofs.Common.{◌≡◌}
use Rattle.bx_map.specs.Numbers.{edges_before}
use Rattle.bx_map.proofs.edges.edges_of.Given as goal

abbrev pub invariant-loop-cell : goal.invariant-loop-cell
invariant-loop-cell l = l.edges.items ≡ edges_before l.fan_outs l.cell
