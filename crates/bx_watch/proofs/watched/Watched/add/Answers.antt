use Rattle.std.proofs.Common.{◌≡◌, ℕ, ◌+◌, ◌-◌, ◌++◌, ◌∷◌, [], true, length, slice_get, Some, sym, ◌∙◌, ap, subst, arith, rules}
use Rattle.std.proofs.lemmas.List.{length_push}
use Rattle.bx_cnf.specs.Formulas.{Formula}
use Rattle.bx_least_set.specs.Numbers.{has}
use Rattle.bx_watch.specs.Keeping.{tables_of, IsReady, AreParked, ArePending, up_to}
use Rattle.bx_watch.proofs.Events.{whole-cleaned}
use Rattle.bx_watch.proofs.Attaching.{ready-front, ready-all, at-last}
use Rattle.bx_watch.proofs.Parking.{pending-now, pending-added, parked-added}
use Rattle.bx_watch.proofs.watched.Watched.add.Goals as goal

pub attach-requires-clause-ready : goal.attach-requires-clause-ready
attach-requires-clause-ready c =
    let is : c.self.inside.whole ≡ true = search rules in
    let whole = c.self.invariant is in
    let f = c.self.inside.store in
    let count : c.len-number.result ≡ length f.clauses + 1 = c.len-number.ensures.count ∙ (ap (λ (g : Formula). length g.clauses) c.in_ok-push.ensures.pushed ∙ length_push f.clauses c.args.literals.now) in
    subst (λ (g : Formula). IsReady (up_to (c.len-number.result - 1) g) c.self.inside.trail.literals (tables_of c.self.inside.watches)) (sym c.in_ok-push.ensures.pushed)
    (ready-front f c.args.literals.now c.self.inside.trail.literals (tables_of c.self.inside.watches) (c.len-number.result - 1)
    (record { kept = whole.kept; pending = pending-now f c.self.inside.trail.literals c.self.inside.watches.pending c.self.inside.parked whole.pending }) (omega (arith, count)))

pub invariant_of-self-2 : goal.invariant_of-self-2
invariant_of-self-2 c _ =
    let is : c.self.inside.whole ≡ true = search rules in
    let whole = c.self.invariant is in
    let ready : IsReady c.push.new.self c.self.inside.trail.literals (tables_of c.attach.new.self) =
    ready-all c.push.new.self c.self.inside.trail.literals (tables_of c.attach.new.self) (c.len-number.result - 1 + 1) c.in_ok-attach.ensures.ready (omega (arith, c.len-number.ensures.count)) in
    whole-cleaned c.push.new.self c.self.inside.trail (tables_of c.attach.new.self) (tables_of c.clean.new.self) c.clean.new.parked c.in_ok-push.ensures.formed whole.trail
    (whole.one_size ∙ sym (ap (λ (g : Formula). g.vars) c.in_ok-push.ensures.pushed)) ready.kept c.in_ok-clean.ensures

pub clean-requires-clause-parked : goal.clean-requires-clause-parked
clean-requires-clause-parked c =
    let is : c.self.inside.whole ≡ true = search rules in
    let whole = c.self.invariant is in
    subst (λ (g : Formula). AreParked g c.self.inside.parked) (sym c.in_ok-push.ensures.pushed) (parked-added c.self.inside.store c.args.literals.now c.self.inside.parked whole.parking)

pub clean-requires-clause-pending : goal.clean-requires-clause-pending
clean-requires-clause-pending c =
    let is : c.self.inside.whole ≡ true = search rules in
    let whole = c.self.invariant is in
    let f = c.self.inside.store in
    let trail = c.self.inside.trail.literals in
    let literals = c.args.literals.now in
    let count : c.len-number.result ≡ length f.clauses + 1 = c.len-number.ensures.count ∙ (ap (λ (g : Formula). length g.clauses) c.in_ok-push.ensures.pushed ∙ length_push f.clauses literals) in
    let number : c.len-number.result - 1 ≡ length f.clauses = omega (arith, count) in
    let at : slice_get c.push.new.self.clauses (c.len-number.result - 1) ≡ Some literals =
    ap (λ (g : Formula). slice_get g.clauses (c.len-number.result - 1)) c.in_ok-push.ensures.pushed ∙ (ap (slice_get (f.clauses ++ literals ∷ [])) number ∙ at-last f.clauses literals) in
    subst (λ (g : Formula). ArePending g trail c.attach.new.self.pending c.self.inside.parked) (sym c.in_ok-push.ensures.pushed)
    (pending-added f literals trail c.self.inside.watches.pending c.attach.new.self.pending c.self.inside.parked whole.pending c.in_ok-attach.ensures.stays
    (λ may. subst (λ (n : ℕ). has c.attach.new.self.pending n ≡ true) number (c.in_ok-attach.ensures.woken literals at may)))
