use Rattle.std.proofs.Common.{◌∙◌, ap, subst, sym}
use Rattle.bx_queue.specs.Queue.{IsQueue, first_free}
use Rattle.bx_queue.proofs.Orders.{all-taken}
use Rattle.bx_queue.proofs.Places.{none-free, first-free}
use Rattle.bx_queue.proofs.queue.MoveFront.first_unassigned.Goals as goal
use Rattle.bx_queue.proofs.queue.MoveFront.first_unassigned.Goals.{then-self-eq0, else-self-eq0}

pub returns-clause-first : goal.returns-clause-first
returns-clause-first c =
    elim c.if-self-eq0.branch [
      | then-self-eq0 w ↦
          w.result-is
          ∙ (sym (none-free _ _ _ c.free_from-self-inside.result c.self.invariant.queue c.deref.ensures.value w.if-self-eq0.true c.free_from-self-inside.ensures.before)
          ∙ ap first_free c.self.view_is)
      | else-self-eq0 w ↦
          w.result-is
          ∙ (sym (first-free _ _ _ c.free_from-self-inside.result c.self.invariant.queue c.deref.ensures.value w.if-self-eq0.false c.free_from-self-inside.ensures.within c.free_from-self-inside.ensures.before c.free_from-self-inside.ensures.free)
          ∙ ap first_free c.self.view_is)
    ]

pub returns-clause-none : goal.returns-clause-none
returns-clause-none c = λ e. all-taken c.args.self.now (subst IsQueue c.self.view_is c.self.invariant.queue) (sym (returns-clause-first c) ∙ e)
