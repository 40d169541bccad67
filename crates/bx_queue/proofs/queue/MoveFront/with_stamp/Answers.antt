use Rattle.std.proofs.Common.{◌∙◌, ap, arith, rules}
use Rattle.std.proofs.lemmas.List.{take_at}
use Rattle.std.proofs.lemmas.List.FromFn.{length-range_with_len}
use Rattle.bx_queue.specs.Stamps.{numbering}
use Rattle.bx_queue.proofs.Orders.{IsQueue-first}
use Rattle.bx_queue.proofs.Rings.{AllBelow-more}
use Rattle.bx_queue.proofs.Places.{searched-made}
use Rattle.bx_queue.proofs.queue.MoveFront.with_stamp.Goals as goal

pub number-requires-clause-room : goal.number-requires-clause-room
number-requires-clause-room c = rw (c.in_ok-ring.ensures, c.deref_mut.ensures.value) (AllBelow-more 1 c.args.vars _ (search rules))

pub number-requires-clause-enough : goal.number-requires-clause-enough
number-requires-clause-enough c = rw c.in_ok-ring.ensures (omega (arith, length-range_with_len 1 c.args.vars, c.requires))

pub invariant_of-result : goal.invariant_of-result
invariant_of-result c =
    searched-made c.args.vars c.args.stamp _ _ _ c.in_ok-stamps.stamps.items _ c.requires (search rules) c.in_ok-ring.ensures (c.in_ok-taken.ensures.items_if_clones_equal (λ y e. e)) (c.in_ok-stamps.ensures.items_if_clones_equal (λ y e. e))
    (take_at c.number.new.stamps _ c.in_ok-stamps.stamps.len (search (rules, c.number.auto.stamps)) ∙ (c.number.ensures ∙ ap (numbering c.in_ok-ring.ring c.args.stamp) c.deref_mut.ensures.value))
    c.first-place.ensures

pub returns-clause-queue : goal.returns-clause-queue
returns-clause-queue c = rw c.in_ok-ring.ensures (IsQueue-first c.args.vars c.in_ok-taken.taken.items (search rules))
