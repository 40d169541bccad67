use Rattle.std.proofs.Common.{refl, sym, ◌∙◌, arith, rules}
use Rattle.bx_watch.specs.Keeping.{tables_of}
use Rattle.bx_watch.proofs.Cleaning.{trues-fewer, read-active, cleaned-at, cleaned-none, cleaning-more}
use Rattle.bx_watch.proofs.watches.Watches.clean.Goals as goal

pub loop-number-init : goal.loop-number-init
loop-number-init c = record { lists_stay = refl; pairs_stay = refl; sized = refl; within = c.requires.sized; parking = c.requires.parked; pending = c.requires.pending }

pub clause-requires : goal.clause-requires
clause-requires c = omega (arith, c.in-Some.ensures.some.below, c.loop-number.invariant.within)

pub returns-then-is_active : goal.returns-then-is_active
returns-then-is_active c =
    cleaned-at c.args.store.now c.args.trail.now.literals _ _ _ c.in-Some.number c.clause.result.now c.loop-number.invariant c.in-Some.ensures.some c.clause.ensures.value
    (read-active c.args.trail.now.literals c.clause.result.now c.read-reading.result c.read-reading.ensures (sym c.is_active.ensures ∙ c.if-is_active.true))

pub loop-number-smaller : goal.loop-number-smaller
loop-number-smaller c = trues-fewer c.loop-number.self.pending c.remove.new.self c.in-Some.number c.remove.ensures.bound_stays c.in-Some.ensures.some.there c.remove.ensures.gone c.remove.ensures.others

pub loop-number-preserved : goal.loop-number-preserved
loop-number-preserved c =
    cleaning-more c.args.store.now c.args.trail.now.literals _ (tables_of c.loop-number.self) c.loop-number.parked c.park.new.parked c.remove.new.self c.in-Some.number c.clause.result.now c.read-reading.result c.requires.formed.apart c.loop-number.invariant
    c.clause.ensures.value c.read-reading.ensures (sym c.is_active.ensures ∙ c.if-is_active.false) c.in_ok-park.ensures c.remove.ensures

pub returns : goal.returns
returns c = cleaned-none c.args.store.now c.args.trail.now.literals _ _ _ c.loop-number.invariant (c.least.ensures.none (search rules))
