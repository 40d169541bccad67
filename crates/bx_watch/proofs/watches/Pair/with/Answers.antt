use Rattle.bx_watch.proofs.Ranks.{chosen-keep, chosen-new}
use Rattle.bx_watch.proofs.watches.Pair.with.Goals as goal

pub returns-then-outlasts : goal.returns-then-outlasts
returns-then-outlasts c front is = chosen-keep c.args.trail.now.literals front c.args.self c.args.lit is (c.outlasts.ensures.yes c.if-outlasts.true)

pub returns-else-outlasts : goal.returns-else-outlasts
returns-else-outlasts c front is = chosen-new c.args.trail.now.literals front c.args.self c.ordered.result c.args.lit is (c.outlasts.ensures.no c.if-outlasts.false) c.ordered.ensures c.requires.not_first
