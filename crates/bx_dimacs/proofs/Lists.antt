-- Lists, item by item.
use Rattle.std.proofs.Common.{◌≡◌, ℕ, zero, suc, ◌+◌, ◌<◌, ◌≤◌, List, [], ◌∷◌, ◌++◌, length, take, get_or, Some, ap, subst, ◌∙◌, arith, inl, inr}
use Rattle.std.specs.Prelude.{slice_get, All, Contains}
use Rattle.std.specs.List.Sorted.{IsStrictlyIncreasing}
use Rattle.std.proofs.lemmas.Bool.{cases_lt}
use Rattle.std.proofs.lemmas.List.{take_more}
use Rattle.std.proofs.lemmas.List.Elements.{All-contains, All-contains_itself}
use Rattle.std.proofs.lemmas.List.Kept.{AllPairs-from_increasing}
use Rattle.std.proofs.lemmas.Option.{slice_get_within, get_or_from_slice_get}

-- one item more is taken
pub take_next : {X : Type 0} (xs : List X) (k : ℕ) (x : X) → slice_get xs k ≡ Some x → take (k + 1) xs ≡ take k xs ++ x ∷ []
take_next xs k x is = take_more xs k x (slice_get_within xs k x is) ∙ ap (λ y. take k xs ++ y ∷ []) (get_or_from_slice_get xs k x x is)

-- what holds of each item holds of this one
pub each_at : {X : Type 0} (P : X → Type 0) (xs : List X) (k : ℕ) (x : X) → All P xs → slice_get xs k ≡ Some x → P x
each_at P xs k x all is = subst P (get_or_from_slice_get xs k x x is) (all k x (slice_get_within xs k x is))

-- the first of a list, and the others
pub all_tail : {X : Type 0} (P : X → Type 0) (x : X) (xs : List X) → All P (x ∷ xs) → All P xs
all_tail P x xs all k d lt = all (suc k) d (omega (arith, lt))

pub all_head : {X : Type 0} (P : X → Type 0) (x : X) (xs : List X) → All P (x ∷ xs) → P x
all_head P x xs all = all zero x (omega arith)

pub all_cons : {X : Type 0} (P : X → Type 0) (x : X) (xs : List X) → P x → All P xs → All P (x ∷ xs)
all_cons P x xs here rest zero d lt = here
all_cons P x xs here rest (suc k) d lt = rest k d (omega (arith, lt))

-- what holds of all items of a list holds of all of another that has no others
pub all_by : {X : Type 0} (P : X → Type 0) (xs ys : List X) → ((x : X) → Contains xs x → Contains ys x) → All P ys → All P xs
all_by P xs ys move all k d within = let itself = All-contains_itself xs k d within in All-contains P ys _ all (move _ itself)

-- numbers that ascend strictly behind another ascend
pub ascend_behind : (x : ℕ) (xs : List ℕ) → IsStrictlyIncreasing (x ∷ xs) → (i j : ℕ) → i ≤ j → j < length xs → get_or xs i 0 ≤ get_or xs j 0
ascend_behind x xs up i j le within =
    elim (cases_lt i j) [
      | inl lt ↦
          let less : get_or xs i 0 < get_or xs j 0 = AllPairs-from_increasing (x ∷ xs) up (suc i) (suc j) 0 (omega (arith, lt)) (omega (arith, within)) in
          omega (arith, less)
      | inr ge ↦ let same : i ≡ j = omega (arith, le, ge) in subst (λ k. get_or xs i 0 ≤ get_or xs k 0) same (omega arith)
    ]
