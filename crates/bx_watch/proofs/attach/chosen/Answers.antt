use Rattle.bx_watch.proofs.Ranks.{watching-chosen}
use Rattle.bx_watch.proofs.attach.chosen.Goals as goal

pub returns-in_default : goal.returns-in_default
returns-in_default c _ = watching-chosen c.args.trail.now.literals c.args.literals.now c.last_two.result c.last_two.ensures
