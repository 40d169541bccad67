use Rattle.std.proofs.Common.{◌≡◌, ◌++◌, replicate}
use Rattle.bx_map.specs.Numbers.{fan_node}
use Rattle.bx_map.proofs.nodes.put_fans.Given as goal

abbrev pub invariant-loop : goal.invariant-loop
invariant-loop l = l.nodes.items ≡ l.fn.nodes.items ++ replicate l.counter fan_node
