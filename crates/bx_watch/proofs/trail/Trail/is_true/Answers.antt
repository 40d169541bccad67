use Rattle.bx_watch.proofs.Trails.{never_both, known-true, known-false}
use Rattle.bx_watch.proofs.trail.Trail.is_true.Goals as goal

pub returns-in-Some-clause-yes : goal.returns-in-Some-clause-yes
returns-in-Some-clause-yes c e = known-true c.args.self.now.literals c.args.lit c.in-Some.value c.in-Some.ensures.value e

pub returns-in-Some-clause-no : goal.returns-in-Some-clause-no
returns-in-Some-clause-no c e holds = never_both c.args.self.now.literals c.args.lit c.in-Some.ensures.formed.apart holds (known-false c.args.self.now.literals c.args.lit c.in-Some.value c.in-Some.ensures.value e)
