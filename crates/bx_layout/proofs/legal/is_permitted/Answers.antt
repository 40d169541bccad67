use Rattle.std.proofs.Common.{arith, below_more}
use Rattle.bx_layout.proofs.Verdicts.{refuted, confirmed, denied}
use Rattle.bx_layout.proofs.legal.is_permitted.Goals as goal

pub returns-then-not-is_permitted_on : goal.returns-then-not-is_permitted_on
returns-then-not-is_permitted_on c =
    refuted (λ all. denied c.is_permitted_on.result _ c.is_permitted_on.ensures c.if-not-is_permitted_on.true (λ form has. all c.loop-tile.tile form (omega arith) has))

pub loop-tile-preserved : goal.loop-tile-preserved
loop-tile-preserved c = below_more _ _ c.loop-tile.invariant (c.is_permitted_on.ensures.0 c.if-not-is_permitted_on.false)

pub returns : goal.returns
returns c = confirmed (λ t form inside has. c.loop-tile.invariant t (omega arith) form has)
