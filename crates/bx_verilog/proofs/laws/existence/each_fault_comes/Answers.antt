-- Whether a module has a fault can be told, and is told here.
use Rattle.bx_verilog.specs.Examples.{bad_port, no_output, two_drivers, no_driver, cycle}
use Rattle.bx_verilog.proofs.Existence.{meaning}
use Rattle.bx_verilog.proofs.laws.existence.each_fault_comes.Goals as goal

pub returns : goal.returns
unfolding meaning
returns c = record {
  bad_port = (meaning bad_port).1;
  no_output = (meaning no_output).1;
  two_drivers = (meaning two_drivers).1;
  no_driver = (meaning no_driver).1;
  cycle = (meaning cycle).1;
}
