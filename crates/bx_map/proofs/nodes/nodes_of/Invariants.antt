use Rattle.std.proofs.Common.{◌≡◌}
use Rattle.bx_map.specs.Numbers.{nodes_before}
use Rattle.bx_map.proofs.nodes.nodes_of.Given as goal

abbrev pub invariant-loop-cell : goal.invariant-loop-cell
invariant-loop-cell l = l.nodes.items ≡ nodes_before l.fan_outs l.cell
