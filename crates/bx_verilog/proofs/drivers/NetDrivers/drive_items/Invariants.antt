use Rattle.std.proofs.Common.{take, flat_map}
use Rattle.bx_verilog.specs.Lowering.{AreDriversToo, item_drives}
use Rattle.bx_verilog.proofs.drivers.NetDrivers.drive_items.Given as goal

abbrev pub invariant-loop-item : goal.invariant-loop-item
invariant-loop-item l = AreDriversToo l.names (flat_map item_drives (take l.item-index l.items)) l.fn.self l.self
