use Rattle.std.proofs.Common.{◌≤◌, ◌<◌, length, subst, sym}
use Rattle.bx_queue.specs.Stamps.{AreTakenBefore}
use Rattle.bx_queue.proofs.Places.{left_from, before-behind, behind-within, behind-less}
use Rattle.bx_queue.proofs.queue.free_from.Goals as goal

pub loop-at-smaller : goal.loop-at-smaller
loop-at-smaller c = subst (λ k. left_from k c.args.ring.now < left_from c.loop-at.at c.args.ring.now) (sym c.behind-at.ensures) (behind-less _ c.args.taken.now c.loop-at.at c.requires.queue c.loop-at-test.true c.loop-at.invariant.within)

pub loop-at-preserved : goal.loop-at-preserved
loop-at-preserved c =
    record {
      within = subst (λ k. k ≤ length c.args.taken.now) (sym c.behind-at.ensures) (behind-within _ _ c.loop-at.at c.requires.queue);
      before = subst (λ k. AreTakenBefore k c.args.taken.now c.args.ring.now) (sym c.behind-at.ensures) (before-behind _ c.loop-at.at _ c.if-taken-at.true c.loop-at.invariant.before);
    }
