use Rattle.std.proofs.Common.{◌≡◌, ◌+◌, true, false, ap, subst, inl, inr, rules}
use Rattle.bx_cnf.specs.Assignments.{IsClauseFalse, IsUnit}
use Rattle.bx_watch.specs.Watching.{Watch, IsFirst, NoneActive}
use Rattle.bx_watch.specs.Readings.{IsRead, is_open}
use Rattle.bx_watch.specs.Keeping.{tables_of}
use Rattle.bx_watch.proofs.Events.{seen, none-active, first-pending, least-open}
use Rattle.bx_watch.proofs.Parking.{pending-now}
use Rattle.bx_watch.proofs.watched.Watched.least_active.Goals as goal

pub returns-in_err-number-clause-none : goal.returns-in_err-number-clause-none
returns-in_err-number-clause-none c _ =
    let is : c.self.inside.whole ≡ true = search rules in
    let whole = c.self.invariant is in
    let view = seen c.self.inside.whole c.self.inside.store c.self.inside.trail c.args.self.now is c.self.view_is in
    subst (λ (w : Watch). NoneActive w.trail w.clauses) view (none-active c.self.inside.store c.self.inside.trail.literals c.self.inside.watches.pending (pending-now c.self.inside.store c.self.inside.trail.literals c.self.inside.watches.pending c.self.inside.parked whole.pending) (c.least.ensures.none (search rules)))

pub returns-in-False-clause-some : goal.returns-in-False-clause-some
returns-in-False-clause-some c =
    let is : c.self.inside.whole ≡ true = search rules in
    let whole = c.self.invariant is in
    let view = seen c.self.inside.whole c.self.inside.store c.self.inside.trail c.args.self.now is c.self.view_is in
    subst (λ (w : Watch). IsFirst w (c.in_ok-number.number + 1) (IsClauseFalse w.trail)) view
    (first-pending c.self.inside.store c.self.inside.trail (tables_of c.self.inside.watches) c.self.inside.parked c.in_ok-number.number c.clause.result.now (IsClauseFalse c.self.inside.trail.literals) whole c.in_ok-number.ensures.some c.clause.ensures.value
    (subst (IsRead c.self.inside.trail.literals c.clause.result.now) c.in-False.is c.read.ensures))

pub returns-in-Unit-clause-some : goal.returns-in-Unit-clause-some
returns-in-Unit-clause-some c =
    let is : c.self.inside.whole ≡ true = search rules in
    let whole = c.self.invariant is in
    let view = seen c.self.inside.whole c.self.inside.store c.self.inside.trail c.args.self.now is c.self.view_is in
    subst (λ (w : Watch). IsFirst w (c.in_ok-number.number + 1) (λ clause. IsUnit w.trail clause c.in-Unit.lit)) view
    (first-pending c.self.inside.store c.self.inside.trail (tables_of c.self.inside.watches) c.self.inside.parked c.in_ok-number.number c.clause.result.now (λ clause. IsUnit c.self.inside.trail.literals clause c.in-Unit.lit) whole c.in_ok-number.ensures.some c.clause.ensures.value
    (subst (IsRead c.self.inside.trail.literals c.clause.result.now) c.in-Unit.is c.read.ensures))

pub returns-in-Met-clause-none : goal.returns-in-Met-clause-none
returns-in-Met-clause-none c _ =
    let is : c.self.inside.whole ≡ true = search rules in
    let whole = c.self.invariant is in
    let closed : is_open c.read.result ≡ false = elim c.in-Met.is [ inl met ↦ ap is_open met.1 | inr other ↦ ap is_open other ] in
    absurd (least-open c.self.inside.store c.self.inside.trail (tables_of c.self.inside.watches) c.self.inside.parked c.in_ok-number.number c.clause.result.now c.read.result whole c.in_ok-number.ensures.some c.clause.ensures.value c.read.ensures closed)
