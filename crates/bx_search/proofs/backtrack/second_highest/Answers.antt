use Rattle.std.proofs.Common.{arith}
use Rattle.bx_search.proofs.Levels.{below-yes, below-no}
use Rattle.bx_search.proofs.backtrack.second_highest.Goals as goal
use Rattle.bx_search.proofs.backtrack.second_highest.Goals.{then-level-top, else-level-top}

pub loop-level-preserved : goal.loop-level-preserved
loop-level-preserved c = elim c.if-level-top.branch [
  | then-level-top w ↦ omega (arith, below-yes c.highest-top.result c.args.levels.now c.loop-level.level-index c.loop-level-test.true w.if-level-top.true)
  | else-level-top w ↦ omega (arith, below-no c.highest-top.result c.args.levels.now c.loop-level.level-index c.loop-level-test.true w.if-level-top.false)
]
