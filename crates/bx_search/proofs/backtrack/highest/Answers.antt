use Rattle.std.proofs.Common.{arith}
use Rattle.bx_search.proofs.Levels.{highest-more}
use Rattle.bx_search.proofs.backtrack.highest.Goals as goal

pub loop-level-preserved : goal.loop-level-preserved
loop-level-preserved c = omega (arith, highest-more c.args.levels.now c.loop-level.level-index c.loop-level-test.true)
