use Rattle.std.proofs.Common.{arith}
use Rattle.bx_verilog.specs.Lowering.{part_drives}
use Rattle.bx_verilog.proofs.DriverSteps.{gathered_more, gathered_fits, gathered_each, one_drive_has, one_drive_size, too_none}
use Rattle.bx_verilog.proofs.drivers.NetDrivers.drive_parts.Goals as goal
use Rattle.bx_verilog.proofs.drivers.NetDrivers.drive_parts.Goals.{in-Some+in_ok-drive, in_default}

pub drive-requires-clause-some : goal.drive-requires-clause-some
drive-requires-clause-some c =
    one_drive_has _ c.in-Some.drive c.in-Some.ensures (gathered_each part_drives _ _ _ c.loop-part-test.true c.part-item.is c.requires.some)

pub drive-requires-clause-fits : goal.drive-requires-clause-fits
drive-requires-clause-fits c =
    let f = gathered_fits part_drives _ _ _ c.loop-part-test.true c.part-item.is in
    let s = one_drive_size _ c.in-Some.drive c.in-Some.ensures in
    omega (arith, c.loop-part.invariant.count)

pub loop-part-preserved : goal.loop-part-preserved
loop-part-preserved c =
    elim c.match-drive_of.branch [
      | in-Some+in_ok-drive w ↦ gathered_more part_drives _ _ _ _ _ _ _ c.loop-part-test.true c.part-item.is c.loop-part.invariant (rw (w.self-is, w.in-Some.ensures) w.in_ok-drive.ensures)
      | in_default w ↦ gathered_more part_drives _ _ _ _ _ _ _ c.loop-part-test.true c.part-item.is c.loop-part.invariant (rw (w.self-is, w.in_default.ensures) (too_none _ _))
    ]
