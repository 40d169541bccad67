use Rattle.std.proofs.Common.{◌∙◌, ℕ, List, take, ap, sym}
use Rattle.bx_queue.specs.Queue.{Queue, moved_to_front}
use Rattle.bx_search.specs.Searching.{moved_in_turn}
use Rattle.bx_search.proofs.Queues.{moved-more}
use Rattle.bx_search.proofs.learn.move_to_front.Goals as goal

pub loop-lit-preserved : goal.loop-lit-preserved
loop-lit-preserved c =
    let queue = c.args.queue.now in
    let literals = c.args.literals.now in
    let i = c.loop-lit.lit-index in
    c.to_front.ensures
    ∙ ap (λ (q : Queue). record q { order = moved_to_front c.var.result q.order }) c.loop-lit.invariant
    ∙ ap (λ v. record queue { order = moved_to_front v (moved_in_turn (take i literals) queue.order) }) c.var.ensures.var
    ∙ ap (λ (order : List ℕ). record queue { order = order }) (sym (moved-more literals i c.lit-item.result queue.order c.loop-lit-test.true c.lit-item.is))
