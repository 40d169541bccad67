use Rattle.std.proofs.Common.{◌≡◌, ◌++◌, map, flat_map, take}
use Rattle.bx_verilog.specs.Mentions.{port_mentions}
use Rattle.bx_verilog.specs.Shown.{shown}
use Rattle.bx_verilog.proofs.mentions.push_ports.Given as goal

abbrev pub invariant-loop-port : goal.invariant-loop-port
invariant-loop-port l = map shown l.found.items ≡ map shown l.fn.found.items ++ flat_map port_mentions (take l.port-index l.ports)
