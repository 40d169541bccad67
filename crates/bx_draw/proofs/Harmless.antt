-- Escaped bytes are harmless: each of the 256 bytes is tried, and the others follow.
use Rattle.std.proofs.Common.{◌≡◌, ℕ, zero, suc, List, [], ◌∷◌, ◌<◌, Bool, true, ◌&&◌, not, refl, arith, nat_eq, nat_le}
use Rattle.std.proofs.lemmas.Bool.Decides.{nat_tests}
use Rattle.std.specs.List.{AllByRecursion}
use Rattle.bx_logic.proofs.Lists.{all-append}
use Rattle.bx_draw.specs.Escapes.{escaped, escaped_byte, IsHarmless}

is_harmless : ℕ → Bool
is_harmless b = (nat_le 32 b && nat_le b 126) && (not (nat_eq b 60) && (not (nat_eq b 62) && not (nat_eq b 34)))

harmless_of : (b : ℕ) → is_harmless b ≡ true → IsHarmless b
unfolding is_harmless
harmless_of b h = record { least = grind (arith, nat_tests); most = grind (arith, nat_tests); no_tag = grind (arith, nat_tests); no_end = grind (arith, nat_tests); no_quote = grind (arith, nat_tests) }

are_harmless : List ℕ → Bool
are_harmless [] = true
are_harmless (b ∷ bs) = is_harmless b && are_harmless bs

all_harmless : (bs : List ℕ) → are_harmless bs ≡ true → AllByRecursion IsHarmless bs
unfolding are_harmless
all_harmless [] h = tt
all_harmless (b ∷ bs) h = (harmless_of b (grind (arith, h)), all_harmless bs (grind (arith, h)))

-- of each number below this one
all_below : (ℕ → Bool) → ℕ → Bool
all_below p zero = true
all_below p (suc n) = p n && all_below p n

one_below : (p : ℕ → Bool) (n : ℕ) → all_below p n ≡ true → (b : ℕ) → b < n → p b ≡ true
unfolding all_below
one_below p zero h b lt = grind arith
one_below p (suc n) h b lt = grind (arith, one_below p n)

tried : all_below (λ b. are_harmless (escaped_byte b)) 256 ≡ true
unfolding all_below are_harmless is_harmless
tried = refl

pub escaped_harmless : (bs : List ℕ) → AllByRecursion (λ b. b < 256) bs → AllByRecursion IsHarmless (escaped bs)
escaped_harmless [] h = tt
escaped_harmless (b ∷ bs) h = all-append IsHarmless (escaped_byte b) (escaped bs)
    (all_harmless (escaped_byte b) (one_below (λ b. are_harmless (escaped_byte b)) 256 tried b h.0)) (escaped_harmless bs h.1)
