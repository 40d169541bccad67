use Rattle.std.proofs.Common.{below_more}
use Rattle.bx_layout.proofs.legal.is_balanced.Goals as goal

pub loop-tile-preserved : goal.loop-tile-preserved
loop-tile-preserved c = below_more _ _ c.loop-tile.invariant (c.is_balanced_on.ensures.0 c.if-not-is_balanced_on.false)
