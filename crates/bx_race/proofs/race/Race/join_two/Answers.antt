use Rattle.std.proofs.Common.{rules, arith}
use Rattle.bx_race.proofs.RuleSteps.{join_keeps}
use Rattle.bx_race.proofs.race.Race.join_two.Goals as goal

pub join_seat-requires : goal.join_seat-requires
join_seat-requires c = (search rules, search rules, search rules, search rules, join_keeps _ _ _ _ _ (omega arith) c.requires.idle.0 c.requires.idle.1)
