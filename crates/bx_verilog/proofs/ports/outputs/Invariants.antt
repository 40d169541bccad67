use Rattle.std.proofs.Common.{◌≡◌, map, take}
use Rattle.bx_verilog.specs.Mentions.{number, is_output}
use Rattle.bx_verilog.proofs.PortSteps.{ports_among}
use Rattle.bx_verilog.proofs.ports.outputs.Given as goal

abbrev pub invariant-loop-port : goal.invariant-loop-port
invariant-loop-port l = l.outputs.items ≡ map (λ n. (n, number l.«module» n)) (ports_among is_output l.«module» (take l.port-index l.port-items))
