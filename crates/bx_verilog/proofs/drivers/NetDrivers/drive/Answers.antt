use Rattle.bx_verilog.specs.Lowering.{shown_drive}
use Rattle.bx_verilog.proofs.Lowering.{some_nets}
use Rattle.bx_verilog.proofs.DriverSteps.{drive_result}
use Rattle.bx_verilog.proofs.drivers.NetDrivers.drive.Goals as goal

pub drive_all-requires-clause-some : goal.drive_all-requires-clause-some
drive_all-requires-clause-some c = rw c.deref.ensures.value (some_nets _ _ _ _ _ c.requires.some c.in_ok-nets.ensures)

pub returns : goal.returns
returns c =
    drive_result c.drive_all.result c.args.names.now (shown_drive c.args.drive) c.args.self.now (record { named = c.drive_all.new.named; inner = c.nets_of_expressions.new.inner }) c.deref.result.now
    (rw c.deref.ensures.value c.in_ok-nets.ensures) c.drive_all.ensures
