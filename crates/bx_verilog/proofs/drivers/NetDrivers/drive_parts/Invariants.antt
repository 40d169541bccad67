use Rattle.std.proofs.Common.{take, flat_map}
use Rattle.bx_verilog.specs.Lowering.{AreDriversToo, part_drives}
use Rattle.bx_verilog.proofs.drivers.NetDrivers.drive_parts.Given as goal

abbrev pub invariant-loop-part : goal.invariant-loop-part
invariant-loop-part l = AreDriversToo l.names (flat_map part_drives (take l.part-index l.parts)) l.fn.self l.self
