use Rattle.std.proofs.Common.{rules}
use Rattle.bx_race.proofs.RuleSteps.{split_keeps}
use Rattle.bx_race.proofs.race.Race.cut_off.Goals as goal

pub split_seat-seat-requires : goal.split_seat-seat-requires
split_seat-seat-requires c = (search rules, search rules, split_keeps _ _ _ c.requires.more c.requires.unused)
