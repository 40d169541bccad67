use Rattle.std.proofs.Common.{arith}
use Rattle.bx_search.proofs.Trails.{level-low}
use Rattle.bx_search.proofs.trail.Trail.push_decision.Goals as goal

pub overflow_add-level : goal.overflow_add-level
overflow_add-level c = omega (arith, level-low 0 c.args.self.now.entries c.level-level.ensures.formed.climbs, c.level-level.ensures.level, c.level-level.ensures.formed.vars)
