use Rattle.std.proofs.Common.{◌≡◌, ◌++◌, map, flat_map, take}
use Rattle.bx_syntax.specs.Parts.{parts}
use Rattle.bx_verilog.specs.Mentions.{part_mentions}
use Rattle.bx_verilog.specs.Shown.{shown}
use Rattle.bx_verilog.proofs.mentions.push_items.Given as goal

abbrev pub invariant-loop-item : goal.invariant-loop-item
invariant-loop-item l = map shown l.found.items ≡ map shown l.fn.found.items ++ flat_map part_mentions (flat_map (λ item. item) (map parts (take l.item-index l.items)))
