use Rattle.std.proofs.Common.{◌≡◌, ◌++◌, take}
use Rattle.bx_map.specs.FanOuts.{output_uses}
use Rattle.bx_map.proofs.uses.put_output_uses.Given as goal

abbrev pub invariant-loop-port : goal.invariant-loop-port
invariant-loop-port l = l.all.items ≡ l.fn.all.items ++ output_uses 0 (take l.port l.outputs)
