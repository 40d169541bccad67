use Rattle.std.proofs.Common.{◌≡◌, ◌∙◌, ◌+◌, ◌++◌, [], ◌∷◌, List, ℕ, ap, sym, arith}
use Rattle.std.specs.List.{range_with_len}
use Rattle.bx_queue.proofs.Orders.{range-more}
use Rattle.bx_queue.proofs.ring.each_next.Goals as goal

pub loop-number-preserved : goal.loop-number-preserved
loop-number-preserved c =
    let next : c.loop-number.number + 1 ≡ 1 + c.loop-number.number = omega arith in
    c.in_ok-push.ensures.items
    ∙ (ap (λ (items : List ℕ). items ++ (c.loop-number.number + 1) ∷ []) c.loop-number.invariant
    ∙ (ap (λ k. range_with_len 1 c.loop-number.number ++ k ∷ []) next ∙ sym (range-more 1 c.loop-number.number)))
