use Rattle.std.proofs.Common.{◌≡◌, subst, rules}
use Rattle.bx_watch.specs.declared.reading.Reading.TheVariants.{Other}
use Rattle.bx_watch.specs.Readings.{IsRead}
use Rattle.bx_watch.proofs.Parking.{other-asleep}
use Rattle.bx_watch.proofs.watches.Watches.wake.Goals as goal

pub returns-else-not-is_other-clause-woken : goal.returns-else-not-is_other-clause-woken
returns-else-not-is_other-clause-woken c may =
    let other : c.read.result ≡ Other = c.is_other.ensures.0 (search rules) in
    absurd (other-asleep c.args.trail.now.literals c.args.literals.now c.requires.formed.apart (subst (IsRead c.args.trail.now.literals c.args.literals.now) other c.read.ensures) may)
