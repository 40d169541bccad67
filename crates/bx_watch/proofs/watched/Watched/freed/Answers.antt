use Rattle.std.proofs.Common.{◌≡◌, true, rules, arith}
use Rattle.bx_watch.specs.Keeping.{tables_of}
use Rattle.bx_watch.proofs.Parking.{parked-left}
use Rattle.bx_watch.proofs.Events.{trail-freed, freed-listed, freed-pending, freed-whole}
use Rattle.bx_watch.proofs.watched.Watched.freed.Goals as goal

pub release-requires-clause-listed : goal.release-requires-clause-listed
release-requires-clause-listed c =
    let is : c.self.inside.whole ≡ true = search rules in
    freed-listed c.self.inside.store c.self.inside.trail c.pop.new.self (tables_of c.self.inside.watches) c.self.inside.parked c.in-Some.lit (c.self.invariant is) c.in-Some.ensures

pub clean-requires-clause-formed : goal.clean-requires-clause-formed
clean-requires-clause-formed c =
    let is : c.self.inside.whole ≡ true = search rules in
    trail-freed c.self.inside.trail c.pop.new.self c.in-Some.lit (c.self.invariant is).trail c.in-Some.ensures

pub clean-requires-clause-parked : goal.clean-requires-clause-parked
clean-requires-clause-parked c =
    let is : c.self.inside.whole ≡ true = search rules in
    parked-left c.self.inside.store c.self.inside.parked c.release.new.parked c.in-Some.lit (c.self.invariant is).parking c.release.ensures.clears

pub clean-requires-clause-pending : goal.clean-requires-clause-pending
clean-requires-clause-pending c =
    let is : c.self.inside.whole ≡ true = search rules in
    freed-pending c.self.inside.store c.self.inside.trail c.pop.new.self (tables_of c.self.inside.watches) (tables_of c.release.new.self) c.self.inside.parked c.release.new.parked c.in-Some.lit (c.self.invariant is) c.in-Some.ensures c.release.ensures

pub release-requires-clause-within : goal.release-requires-clause-within
release-requires-clause-within c l entry listed =
    let is : c.self.inside.whole ≡ true = search rules in
    let whole = c.self.invariant is in
    omega (arith, whole.parking.within l entry listed, whole.kept.room)

pub invariant_of-self-2 : goal.invariant_of-self-2
invariant_of-self-2 c _ =
    let is : c.self.inside.whole ≡ true = search rules in
    freed-whole c.self.inside.store c.self.inside.trail c.pop.new.self (tables_of c.self.inside.watches) (tables_of c.release.new.self) (tables_of c.clean.new.self) c.self.inside.parked c.release.new.parked c.clean.new.parked c.in-Some.lit
    (c.self.invariant is) c.in-Some.ensures c.release.ensures c.in_ok-clean.ensures
