use Rattle.std.proofs.Common.{◌≡◌, ◌+◌, ◌∷◌, ◌++◌, [], List, Bool, refl, ◌∙◌, ap, subst, inl, inr, arith}
use Rattle.bx_least_set.specs.Numbers.{Grows}
use Rattle.bx_watch.specs.Keeping.{tables_of, MayWake, up_to}
use Rattle.bx_watch.proofs.Keeps.{one-at, over-in, place-below}
use Rattle.bx_watch.proofs.Parking.{wakes-now}
use Rattle.bx_watch.proofs.Attaching.{attached-at, ready-with}
use Rattle.bx_watch.proofs.watches.Watches.attach.Goals as goal

pub enter-requires-clause-first : goal.enter-requires-clause-first
enter-requires-clause-first c full =
    let pair = c.chosen-pair.result in
    omega (arith, c.requires.ready.kept.lists_sized, place-below c.args.store.now.vars pair.first (over-in c.args.store.now.vars c.clause-literals.result.now pair.first c.clause-literals.ensures.formed ((c.chosen-pair.ensures full).has pair.first (inl refl))))

pub enter-requires-clause-second : goal.enter-requires-clause-second
enter-requires-clause-second c full =
    let pair = c.chosen-pair.result in
    omega (arith, c.requires.ready.kept.lists_sized, place-below c.args.store.now.vars pair.second (over-in c.args.store.now.vars c.clause-literals.result.now pair.second c.clause-literals.ensures.formed ((c.chosen-pair.ensures full).has pair.second (inr refl))))

pub returns-clause-ready : goal.returns-clause-ready
returns-clause-ready c =
    let old = tables_of c.args.self.now in
    let pair = c.chosen-pair.result in
    let trail = c.args.trail.now.literals in
    let grows : Grows old.pending c.grow.new.self = subst (λ (s : List Bool). Grows s c.grow.new.self) c.enter.ensures.pending c.in_ok-grow.ensures.ok in
    let pairs : c.wake.new.self.pairs.items ≡ old.pairs ++ pair ∷ [] =
    ap (λ v. v.items) c.wake.ensures.pairs ∙ (c.in_ok-push_tight.ensures ∙ ap (λ v. v.items ++ pair ∷ []) c.enter.ensures.pairs) in
    ready-with (up_to (c.args.number + 1) c.args.store.now) trail (record { lists = c.enter.new.self.lists; pairs = old.pairs ++ pair ∷ []; pending = c.wake.new.self.pending }) (tables_of c.wake.new.self)
    (attached-at c.args.store.now c.args.number c.clause-literals.result.now trail pair old c.enter.new.self.lists c.grow.new.self c.wake.new.self.pending c.clause-literals.ensures.value c.requires.ready
    c.chosen-pair.ensures c.in_ok-enter.ensures.lists grows c.wake.ensures.more (λ active. c.wake.ensures.woken (wakes-now trail c.clause-literals.result.now active)))
    c.wake.ensures.lists pairs refl

pub returns-clause-stays : goal.returns-clause-stays
returns-clause-stays c k there =
    let grows : Grows c.args.self.now.pending c.grow.new.self = subst (λ (s : List Bool). Grows s c.grow.new.self) c.enter.ensures.pending c.in_ok-grow.ensures.ok in
    c.wake.ensures.more.stays k (grows.same k ∙ there)

pub returns-clause-woken : goal.returns-clause-woken
returns-clause-woken c clause at may =
    c.wake.ensures.woken (subst (MayWake c.args.trail.now.literals) (one-at c.args.store.now.clauses c.args.number clause c.clause-literals.result.now at c.clause-literals.ensures.value) may)
