use Rattle.std.proofs.Common.{rules, arith}
use Rattle.bx_race.proofs.RuleSteps.{claim_keeps}
use Rattle.bx_race.proofs.race.Race.claim.Goals as goal

pub fetch_add-drawn-requires : goal.fetch_add-drawn-requires
fetch_add-drawn-requires c = (search rules, search rules, claim_keeps _ _ _ _ (omega arith) (omega arith) c.requires.in_race)
