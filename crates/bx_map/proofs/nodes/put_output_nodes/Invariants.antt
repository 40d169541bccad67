use Rattle.std.proofs.Common.{◌≡◌, ◌++◌, take}
use Rattle.bx_map.specs.Numbers.{output_nodes}
use Rattle.bx_map.proofs.nodes.put_output_nodes.Given as goal

abbrev pub invariant-loop-port : goal.invariant-loop-port
invariant-loop-port l = l.nodes.items ≡ l.fn.nodes.items ++ output_nodes 0 (take l.port l.outputs)
