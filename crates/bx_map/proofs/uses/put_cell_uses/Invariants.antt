use Rattle.std.proofs.Common.{◌≡◌, ◌++◌, take}
use Rattle.bx_map.specs.FanOuts.{cell_uses}
use Rattle.bx_map.proofs.uses.put_cell_uses.Given as goal

abbrev pub invariant-loop-number : goal.invariant-loop-number
invariant-loop-number l = l.all.items ≡ l.fn.all.items ++ cell_uses 0 (take l.number l.cells)
