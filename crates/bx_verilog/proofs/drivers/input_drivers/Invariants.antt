use Rattle.std.proofs.Common.{◌≡◌, map}
use Rattle.bx_verilog.proofs.DriverSteps.{input_from}
use Rattle.bx_verilog.proofs.drivers.input_drivers.Given as goal

abbrev pub invariant-loop-i : goal.invariant-loop-i
invariant-loop-i l = l.named.items ≡ map (input_from l.i l.inputs) l.names
