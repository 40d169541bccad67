use Rattle.std.proofs.Common.{◌≡◌, ℕ, ◌+◌, suc, ◌<◌, List, ◌++◌, ◌∷◌, [], length, take, set, length-set, ap, sym, subst, ◌∙◌, arith}
use Rattle.std.specs.List.{range_with_len}
use Rattle.std.proofs.lemmas.List.{take_more_set}
use Rattle.bx_forms.specs.Forms.{form_count}
use Rattle.bx_forms.proofs.Lines.{range-more}
use Rattle.bx_forms.proofs.form.Form.all.Goals as goal

more : (all : List ℕ) (n : ℕ) → n < length all → take n all ≡ range_with_len 0 n → take (n + 1) (set all n n) ≡ range_with_len 0 (n + 1)
more all n low is =
    let next : suc n ≡ n + 1 = omega arith in
    take_more_set all n n low ∙ ap (λ (xs : List ℕ). xs ++ n ∷ []) is ∙ sym (range-more n 0 n (omega arith)) ∙ ap (range_with_len 0) next

pub loop-number-preserved : goal.loop-number-preserved
loop-number-preserved c =
    let all = c.loop-number.all in
    let n = c.loop-number.number in
    let at : n ≡ c.from.result = omega arith in
    let low : n < length all = let count = c.loop-number.invariant.0 in omega arith in
    subst (λ (k : ℕ). (length (set all k n) ≡ form_count) × (take (n + 1) (set all k n) ≡ range_with_len 0 (n + 1))) at
    (length-set all n n ∙ c.loop-number.invariant.0, more all n low c.loop-number.invariant.1)
