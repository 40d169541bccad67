use Rattle.std.proofs.Common.{arith, below_more}
use Rattle.bx_layout.proofs.Verdicts.{refuted, confirmed, denied}
use Rattle.bx_trace.proofs.passed.are_passed.Goals as goal

pub returns-then-not-is_passed : goal.returns-then-not-is_passed
returns-then-not-is_passed c = refuted (λ all. denied c.is_passed.result _ c.is_passed.ensures c.if-not-is_passed.true (all c.loop-tile.tile (omega arith)))

pub loop-tile-preserved : goal.loop-tile-preserved
loop-tile-preserved c = below_more _ _ c.loop-tile.invariant (c.is_passed.ensures.0 c.if-not-is_passed.false)

pub returns : goal.returns
returns c = confirmed (λ t inside. c.loop-tile.invariant t (omega (arith, inside)))
