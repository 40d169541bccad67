use Rattle.std.proofs.Common.{◌≡◌, true, sym, subst, rules}
use Rattle.bx_cnf.specs.Literals.{Literal, negated}
use Rattle.bx_cnf.specs.Assignments.{IsFree}
use Rattle.bx_watch.specs.Watching.{Watch, IsOver}
use Rattle.bx_watch.specs.Readings.{Assigned, IsTrail}
use Rattle.bx_watch.specs.Keeping.{tables_of, IsWhole, ArePending, Falsifies, Cleans}
use Rattle.bx_watch.proofs.Events.{seen, trail-assigned, assigned-pending, assigned-whole}
use Rattle.bx_watch.proofs.watched.Watched.assigned.Goals as goal

pub clean-requires-clause-formed : goal.clean-requires-clause-formed
clean-requires-clause-formed c =
    let is : c.self.inside.whole ≡ true = search rules in
    let whole = c.self.invariant is in
    let view = seen c.self.inside.whole c.self.inside.store c.self.inside.trail c.args.self.now is c.self.view_is in
    let over : IsOver c.self.inside.trail.vars c.args.lit = subst (λ n. IsOver n c.args.lit) (sym whole.one_size) (subst (λ (w : Watch). IsOver w.vars c.args.lit) (sym view) c.requires.over) in
    let free : IsFree c.self.inside.trail.literals c.args.lit = subst (λ (w : Watch). IsFree w.trail c.args.lit) (sym view) c.requires.is_free in
    subst IsTrail (sym c.in_ok-push.ensures) (trail-assigned c.self.inside.trail c.args.lit whole.trail over free)

pub clean-requires-clause-pending : goal.clean-requires-clause-pending
clean-requires-clause-pending c =
    let is : c.self.inside.whole ≡ true = search rules in
    let whole = c.self.invariant is in
    let view = seen c.self.inside.whole c.self.inside.store c.self.inside.trail c.args.self.now is c.self.view_is in
    let free : IsFree c.self.inside.trail.literals c.args.lit = subst (λ (w : Watch). IsFree w.trail c.args.lit) (sym view) c.requires.is_free in
    let falsifies : Falsifies c.self.inside.store c.self.inside.trail.literals (negated c.args.lit) (tables_of c.self.inside.watches) (tables_of c.falsify.new.self) =
    subst (λ (l : Literal). Falsifies c.self.inside.store c.self.inside.trail.literals l (tables_of c.self.inside.watches) (tables_of c.falsify.new.self)) c.not.ensures c.in_ok-falsify.ensures in
    subst (λ (b : Assigned). ArePending c.self.inside.store b.literals c.falsify.new.self.pending c.self.inside.parked) (sym c.in_ok-push.ensures)
    (assigned-pending c.self.inside.store c.self.inside.trail (tables_of c.self.inside.watches) (tables_of c.falsify.new.self) c.self.inside.parked c.args.lit whole free falsifies)

pub invariant_of-self-2 : goal.invariant_of-self-2
invariant_of-self-2 c _ =
    let is : c.self.inside.whole ≡ true = search rules in
    let whole = c.self.invariant is in
    let view = seen c.self.inside.whole c.self.inside.store c.self.inside.trail c.args.self.now is c.self.view_is in
    let over : IsOver c.self.inside.trail.vars c.args.lit = subst (λ n. IsOver n c.args.lit) (sym whole.one_size) (subst (λ (w : Watch). IsOver w.vars c.args.lit) (sym view) c.requires.over) in
    let free : IsFree c.self.inside.trail.literals c.args.lit = subst (λ (w : Watch). IsFree w.trail c.args.lit) (sym view) c.requires.is_free in
    let falsifies : Falsifies c.self.inside.store c.self.inside.trail.literals (negated c.args.lit) (tables_of c.self.inside.watches) (tables_of c.falsify.new.self) =
    subst (λ (l : Literal). Falsifies c.self.inside.store c.self.inside.trail.literals l (tables_of c.self.inside.watches) (tables_of c.falsify.new.self)) c.not.ensures c.in_ok-falsify.ensures in
    subst (λ (b : Assigned). IsWhole c.self.inside.store b (tables_of c.clean.new.self) c.clean.new.parked) (sym c.in_ok-push.ensures)
    (assigned-whole c.self.inside.store c.self.inside.trail (tables_of c.falsify.new.self) (tables_of c.clean.new.self) c.self.inside.parked c.clean.new.parked (tables_of c.self.inside.watches) c.args.lit whole over free falsifies
    (subst (λ (b : Assigned). Cleans c.self.inside.store b.literals (tables_of c.falsify.new.self) (tables_of c.clean.new.self) c.clean.new.parked) c.in_ok-push.ensures c.in_ok-clean.ensures))
