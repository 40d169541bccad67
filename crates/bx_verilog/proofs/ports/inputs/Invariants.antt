use Rattle.std.proofs.Common.{◌≡◌, take}
use Rattle.bx_verilog.specs.Mentions.{is_input}
use Rattle.bx_verilog.proofs.PortSteps.{ports_among}
use Rattle.bx_verilog.proofs.ports.inputs.Given as goal

abbrev pub invariant-loop-port : goal.invariant-loop-port
invariant-loop-port l = l.inputs.items ≡ ports_among is_input l.«module» (take l.port-index l.port-items)
