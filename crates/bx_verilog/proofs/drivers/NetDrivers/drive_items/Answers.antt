use Rattle.std.proofs.Common.{arith}
use Rattle.bx_verilog.specs.Lowering.{item_drives}
use Rattle.bx_verilog.proofs.DriverSteps.{gathered_more, gathered_fits, gathered_each}
use Rattle.bx_verilog.proofs.drivers.NetDrivers.drive_items.Goals as goal

pub drive_parts-requires-clause-some : goal.drive_parts-requires-clause-some
drive_parts-requires-clause-some c = rw c.deref.ensures.value (gathered_each item_drives _ _ _ c.loop-item-test.true c.item-item.is c.requires.some)

pub drive_parts-requires-clause-fits : goal.drive_parts-requires-clause-fits
drive_parts-requires-clause-fits c =
    let f = gathered_fits item_drives _ _ _ c.loop-item-test.true c.item-item.is in
    rw c.deref.ensures.value (omega (arith, c.loop-item.invariant.count))

pub loop-item-preserved : goal.loop-item-preserved
loop-item-preserved c =
    gathered_more item_drives _ _ _ _ _ _ _ c.loop-item-test.true c.item-item.is c.loop-item.invariant (rw (← c.deref.ensures.value) c.in_ok-drive_parts.ensures)
