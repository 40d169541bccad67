-- Numbers that ascend strictly.
use Rattle.std.proofs.Common.{◌≡◌, ℕ, ◌+◌, ◌<◌, List, [], ◌∷◌, ◌++◌, length, get_or, arith, below_more, subst, sym, ap, ◌∙◌}
use Rattle.std.specs.List.Sorted.{IsStrictlyIncreasing}
use Rattle.std.proofs.lemmas.List.{get_or_append_left, get_or_push, length-append}

-- a number above the last one more
pub ascending_push : (x : ℕ) (xs : List ℕ) (y : ℕ) → IsStrictlyIncreasing (x ∷ xs) → get_or (x ∷ xs) (length xs) 0 < y → IsStrictlyIncreasing (x ∷ xs ++ y ∷ [])
ascending_push x xs y up above k within =
    let zs : List ℕ = x ∷ xs in
    let more : List ℕ = zs ++ y ∷ [] in
    let size : length zs ≡ length xs + 1 = omega arith in
    let same : (i : ℕ) → i < length zs → get_or more i 0 ≡ get_or zs i 0 = λ i h. get_or_append_left zs (y ∷ []) 0 i h in
    let P : ℕ → Type 0 = λ i. get_or more i 0 < get_or more (i + 1) 0 in
    let front : (i : ℕ) → i < length xs → P i = λ i h.
    let one = same i (omega arith) in
    let two = same (i + 1) (omega arith) in
    let less = up i (omega arith) in
    omega (arith, one, two, less)
    in
    let seam : P (length xs) =
    let one = same (length xs) (omega arith) in
    let two = get_or_push zs y 0 (length xs + 1) size in
    omega (arith, one, two, above)
    in
    let count = length-append zs (y ∷ []) in
    below_more P (length xs) front seam k (omega (arith, within, count, size))

-- an id above the last one, or above a count where there is none
pub ids_push : (count n last id : ℕ) (ids seen more : List ℕ) → last ≡ get_or (n ∷ seen) (length seen) 0 → n ≡ count → seen ≡ ids → last < id → more ≡ ids ++ id ∷ [] → IsStrictlyIncreasing (count ∷ ids) → IsStrictlyIncreasing (count ∷ more)
ids_push count n last id ids seen more is counted same above pushed up =
    let at_end : last ≡ get_or (count ∷ ids) (length ids) 0 = is ∙ ap (λ m. get_or (m ∷ seen) (length seen) 0) counted ∙ ap (λ xs. get_or (count ∷ xs) (length xs) 0) same in
    let above : get_or (count ∷ ids) (length ids) 0 < id = subst (λ m. m < id) at_end above in
    subst (λ xs. IsStrictlyIncreasing (count ∷ xs)) (sym pushed) (ascending_push count ids id up above)
