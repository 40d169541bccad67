use Rattle.bx_watch.proofs.Trails.{never_both, known-true, known-false, not-true, not-false}
use Rattle.bx_watch.proofs.trail.Trail.is_false.Goals as goal

pub returns-in-Some-clause-yes : goal.returns-in-Some-clause-yes
returns-in-Some-clause-yes c e = known-false c.args.self.now.literals c.args.lit c.in-Some.value c.in-Some.ensures.value (not-true c.in-Some.value e)

pub returns-in-Some-clause-no : goal.returns-in-Some-clause-no
returns-in-Some-clause-no c e fails = never_both c.args.self.now.literals c.args.lit c.in-Some.ensures.formed.apart (known-true c.args.self.now.literals c.args.lit c.in-Some.value c.in-Some.ensures.value (not-false c.in-Some.value e)) fails
