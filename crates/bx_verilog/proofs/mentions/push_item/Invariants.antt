use Rattle.std.proofs.Common.{◌≡◌, ◌++◌, map, flat_map, take}
use Rattle.bx_syntax.specs.Parts.{part}
use Rattle.bx_verilog.specs.Mentions.{part_mentions}
use Rattle.bx_verilog.specs.Shown.{shown}
use Rattle.bx_verilog.proofs.mentions.push_item.Given as goal

abbrev pub invariant-loop-part : goal.invariant-loop-part
invariant-loop-part l = map shown l.found.items ≡ map shown l.fn.found.items ++ flat_map part_mentions (map part (take l.part-index l.item))
