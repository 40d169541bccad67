use Rattle.std.proofs.Common.{rules, arith}
use Rattle.bx_race.proofs.RuleSteps.{offer_keeps}
use Rattle.bx_race.proofs.race.Race.offer.Goals as goal

pub fetch_min-requires : goal.fetch_min-requires
fetch_min-requires c = (search rules, search rules, offer_keeps _ _ _ _ _ (omega arith) (search rules))
