-- What is put behind a text: one thing and then another, and what a loop puts in one more turn.
use Rattle.std.proofs.Common.{◌≡◌, ℕ, ◌+◌, ◌<◌, suc, List, ◌++◌, length, take, get_or, ap, sym, ◌∙◌, arith}
use Rattle.std.proofs.lemmas.List.{append_assoc, flat_map_more, take_more}
use Rattle.std.specs.List.{flat_map, range_with_len}
use Rattle.bx_forms.proofs.Lines.{range-more}

pub put_then : (old middle new first second : List ℕ) → middle ≡ old ++ first → new ≡ middle ++ second → new ≡ old ++ (first ++ second)
put_then old middle new first second a b = b ∙ ap (λ bs. bs ++ second) a ∙ append_assoc old first second

-- the texts of the numbers below n, and then that of n
pub numbers_turn : (text : ℕ → List ℕ) (before : List ℕ) (n : ℕ) → (before ++ flat_map text (range_with_len 0 n)) ++ text n ≡ before ++ flat_map text (range_with_len 0 (n + 1))
numbers_turn text before n =
    let next : suc n ≡ n + 1 = omega arith in
    flat_map_more text before (range_with_len 0 n) n
    ∙ ap (λ ns. before ++ flat_map text ns) (sym (range-more n 0 n (omega arith)) ∙ ap (range_with_len 0) next)

-- those of the items before the n-th, and then its own
pub items_turn : (text : ℕ → List ℕ) (before : List ℕ) (items : List ℕ) (n d : ℕ) → n < length items →
    (before ++ flat_map text (take n items)) ++ text (get_or items n d) ≡ before ++ flat_map text (take (n + 1) items)
items_turn text before items n d low =
    flat_map_more text before (take n items) (get_or items n d)
    ∙ ap (λ ns. before ++ flat_map text ns) (sym (take_more items n d low))
