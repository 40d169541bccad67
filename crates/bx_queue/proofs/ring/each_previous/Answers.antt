use Rattle.std.proofs.Common.{◌≡◌, ◌∙◌, ◌+◌, ◌++◌, [], ◌∷◌, List, ℕ, ap, sym, arith}
use Rattle.std.specs.List.{range_with_len}
use Rattle.bx_queue.proofs.Orders.{range-more}
use Rattle.bx_queue.proofs.ring.each_previous.Goals as goal

pub loop-number-preserved : goal.loop-number-preserved
loop-number-preserved c =
    let next : c.loop-number.number ≡ 0 + c.loop-number.number = omega arith in
    c.in_ok-push-2.ensures.items
    ∙ (ap (λ (items : List ℕ). items ++ c.loop-number.number ∷ []) c.loop-number.invariant
    ∙ (ap (λ k. c.args.count ∷ (range_with_len 0 c.loop-number.number ++ k ∷ [])) next ∙ ap (λ zs. c.args.count ∷ zs) (sym (range-more 0 c.loop-number.number))))
