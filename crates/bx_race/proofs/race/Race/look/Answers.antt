use Rattle.std.proofs.Common.{rules, arith}
use Rattle.bx_race.proofs.RuleSteps.{look_keeps}
use Rattle.bx_race.proofs.race.Race.look.Goals as goal

pub load-least-requires : goal.load-least-requires
load-least-requires c = (search rules, search rules, look_keeps _ _ _ _ (omega arith))
