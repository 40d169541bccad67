use Rattle.std.proofs.Common.{◌≡◌, ◌*◌, length, ap, ◌∙◌, subst, arith}
use Rattle.bx_watch.specs.Lists.{IsEmptyFor}
use Rattle.bx_watch.specs.Keeping.{tables_of}
use Rattle.bx_watch.proofs.Attaching.{ready-none, ready-all}
use Rattle.bx_watch.proofs.watches.Watches.new.Goals as goal

pub loop-number-init : goal.loop-number-init
loop-number-init c =
    let count : length c.deref.result.now ≡ 2 * c.args.store.now.vars = ap length c.deref.ensures.value ∙ c.in_ok-counts.ensures in
    ready-none c.args.store.now c.args.trail.now.literals (tables_of (record { lists = c.in_ok-new.field-0; pairs = c.in_ok-with_capacity.field-0; pending = c.in_ok-new-2.field-0 }))
    (subst (λ n. IsEmptyFor n c.in_ok-new.field-0) count c.in_ok-new.ensures) c.in_ok-with_capacity.ensures.items c.in_ok-new-2.ensures

pub returns : goal.returns
returns c = ready-all c.args.store.now c.args.trail.now.literals (tables_of c.loop-number.watches) c.loop-number.number c.loop-number.invariant (omega (arith, c.loop-number-test.false, c.len-number-end.ensures.count))
