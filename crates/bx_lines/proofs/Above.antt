-- Bytes above 10, the line feed: a line has no others.
use Rattle.std.proofs.Common.{◌≡◌, ℕ, zero, suc, ◌<◌, ◌≤◌, ◌^◌, Bool, true, false, cond, List, [], ◌∷◌, ◌++◌, refl, arith}
use Rattle.std.proofs.lemmas.Bool.{ltb-true}
use Rattle.std.specs.Prelude.{decimal, nat_lt}
use Rattle.std.specs.List.{AllByRecursion}
use Rattle.bx_lines.specs.Lines.{IsLine}
use Rattle.bx_lines.proofs.Numbers.{decimal_digits}

abbrev pub Above : ℕ → Type 0
Above b = 10 < b

-- a test of it, for words that are written out
unfoldable pub above : List ℕ → Bool
above [] = true
above (b ∷ bs) = cond (nat_lt 10 b) (above bs) false

pub above_are : (bs : List ℕ) → above bs ≡ true → AllByRecursion Above bs
unfolding above
above_are [] e = tt
above_are (b ∷ bs) e = by (nat_lt 10 b) refl e (above_are bs) where
  by : (t : Bool) → nat_lt 10 b ≡ t → cond t (above bs) false ≡ true → (above bs ≡ true → AllByRecursion Above bs) → (10 < b) × AllByRecursion Above bs
  by true at e inner = (ltb-true 10 b at, inner e)
  by false at e inner = let never : ⊥ = cc in absurd never

pub all_append : {X : Type 0} (P : X → Type 0) (xs ys : List X) → AllByRecursion P xs → AllByRecursion P ys → AllByRecursion P (xs ++ ys)
all_append P [] ys a b = b
all_append P (x ∷ xs) ys a b = (a.0, all_append P xs ys a.1 b)

digits_above : (ds : List ℕ) → AllByRecursion (λ b. (48 ≤ b) × (b ≤ 57)) ds → AllByRecursion Above ds
digits_above [] a = tt
digits_above (d ∷ ds) a = ((omega (arith, a.0.0)), digits_above ds a.1)

pub decimal_above : (n : ℕ) → n < 2 ^ 64 → AllByRecursion Above (decimal n)
decimal_above n small = digits_above (decimal n) (decimal_digits n small)

pub above_is_line : (line : List ℕ) → AllByRecursion Above line → IsLine line
above_is_line [] are has = absurd (omega (arith, has.1))
above_is_line (b ∷ bs) are (zero, lt, e) = omega (arith, are.0, e)
above_is_line (b ∷ bs) are (suc i, lt, e) = above_is_line bs are.1 (i, omega (arith, lt), e)
