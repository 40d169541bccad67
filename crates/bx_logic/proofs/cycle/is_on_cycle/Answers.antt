use Rattle.std.proofs.Common.{◌∙◌, ◌<◌, length, arith, List, ℕ, ◌++◌, ap, sym}
use Rattle.bx_logic.proofs.Cycles.{walk-begin, walk-again, walk-on, walk-answer, walk-less, last_pending-within, read-at}
use Rattle.bx_logic.proofs.cycle.is_on_cycle.Goals as goal

pub loop-net-init : goal.loop-net-init
loop-net-init c =
    walk-begin _ _ _ _ (c.in_ok-pending.ensures.items_if_clones_equal (λ x y e. e) ∙ c.arguments_at.ensures.reads)
    (c.in_ok-seen.ensures.items_if_clones_equal (λ y e. e))

pub index-requires : goal.index-requires
index-requires c =
    omega (arith, last_pending-within _ _ _ _ c.pop.new.self.items c.in-Some.net c.requires.reads c.in-Some.ensures.items c.loop-net.invariant)

pub index_mut-requires : goal.index_mut-requires
index_mut-requires c =
    omega (arith, last_pending-within _ _ _ _ c.pop.new.self.items c.in-Some.net c.requires.reads c.in-Some.ensures.items c.loop-net.invariant)

pub arguments_at-requires-in-Some-clause-net : goal.arguments_at-requires-in-Some-clause-net
arguments_at-requires-in-Some-clause-net c =
    last_pending-within _ _ _ _ c.pop.new.self.items c.in-Some.net c.requires.reads c.in-Some.ensures.items c.loop-net.invariant

pub loop-net-preserved-then-index : goal.loop-net-preserved-then-index
loop-net-preserved-then-index c =
    let within = last_pending-within _ _ _ _ c.pop.new.self.items c.in-Some.net c.requires.reads c.in-Some.ensures.items c.loop-net.invariant in
    walk-again _ _ _ _ _ _ c.in-Some.ensures.items
    (read-at c.loop-net.seen.items c.in-Some.net c.index.result.now (omega (arith, within, c.loop-net.invariant.whole)) c.index.ensures ∙ c.if-index.true) c.loop-net.invariant

pub loop-net-preserved : goal.loop-net-preserved
loop-net-preserved c =
    let within = last_pending-within _ _ _ _ c.pop.new.self.items c.in-Some.net c.requires.reads c.in-Some.ensures.items c.loop-net.invariant in
    walk-on _ _ _ _ _ _ _ c.in-Some.ensures.items
    (c.in_ok-extend_from_slice.ensures.items ∙ ap (λ (xs : List ℕ). c.pop.new.self.items ++ xs) c.arguments_at-in-Some.ensures.reads) within c.loop-net.invariant

pub loop-net-smaller : goal.loop-net-smaller
loop-net-smaller c =
    let within = last_pending-within _ _ _ _ c.pop.new.self.items c.in-Some.net c.requires.reads c.in-Some.ensures.items c.loop-net.invariant in
    let below : c.in-Some.net < length c.loop-net.seen.items = omega (arith, within, c.loop-net.invariant.whole) in
    walk-less _ _ _ _ _ _ c.in-Some.ensures.items
    (c.in_ok-extend_from_slice.ensures.items ∙ ap (λ (xs : List ℕ). c.pop.new.self.items ++ xs) c.arguments_at-in-Some.ensures.reads) below within
    (read-at c.loop-net.seen.items c.in-Some.net c.index.result.now below c.index.ensures ∙ c.if-index.false)

pub returns : goal.returns
returns c = walk-answer _ _ _ _ _ c.requires.start (sym c.loop-net.pending.ok.0 ∙ c.in_default.ensures.cases.0) c.index-2.ensures c.loop-net.invariant
