use Rattle.std.proofs.Common.{refl}
use Rattle.bx_map.proofs.Using.{cell_uses-more}
use Rattle.bx_map.proofs.uses.put_cell_uses.Goals as goal

pub loop-number-preserved : goal.loop-number-preserved
loop-number-preserved c = cell_uses-more _ c.loop-number.all.items _ _ c.loop-number.number _ c.loop-number-test.true refl c.loop-number.invariant c.in_ok-put_operand_uses.ensures
