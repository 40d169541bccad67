-- What closes a comment or an attribute is the first that stands behind.
use Rattle.std.proofs.Common.{◌≡◌, ℕ, ◌+◌, ◌<◌, true, false, List, [], ◌∷◌, ◌++◌, length, drop, Option, Some, None, option_map, refl, sym, ap, ◌∙◌, arith, length-append}
use Rattle.bx_lex.specs.Rules.{begins, through, IsFirstClose}
use Rattle.bx_lex.proofs.Begins.{either, begins_is, is_begins}

-- it doesn't begin with the first byte
no_sooner : (close : List ℕ) (b : ℕ) (rest earlier back : List ℕ) → begins close (b ∷ rest) ≡ false → b ∷ rest ≡ earlier ++ close ++ back → (shorter : List ℕ) × (length earlier ≡ length shorter + 1) × (rest ≡ shorter ++ close ++ back)
no_sooner close b rest [] back e h = let yes : begins close (b ∷ rest) ≡ true = is_begins close (b ∷ rest) back h in absurd (cc)
no_sooner close b rest (x ∷ shorter) back e h = (shorter, omega arith, cc)

later : (close : List ℕ) (b : ℕ) (rest : List ℕ) (found : Option ℕ) → begins close (b ∷ rest) ≡ false → IsFirstClose close rest found → IsFirstClose close (b ∷ rest) (option_map (λ n. n + 1) found)
later close b rest None e h = λ earlier back k. let s = no_sooner close b rest earlier back e k in h s.0 back s.2
later close b rest (Some n) e h = record {
  before = b ∷ h.before;
  back = h.back;
  stands = ap (λ s. b ∷ s) h.stands;
  ends = omega (arith, h.ends);
  first = λ earlier back k. let s = no_sooner close b rest earlier back e k in omega (arith, s.1, h.first s.0 back s.2);
}

pub first_close : (close text : List ℕ) → 0 < length close → IsFirstClose close text (through close text)
first_close close [] h = λ earlier back k. let l : length earlier + length close + length back ≡ 0 = sym (ap length k ∙ length-append (earlier ++ close) back ∙ ap (λ n. n + length back) (length-append earlier close)) in omega (arith, h, l)
first_close close (b ∷ rest) h =
    either (IsFirstClose close (b ∷ rest)) (begins close (b ∷ rest)) (Some (length close)) (option_map (λ n. n + 1) (through close rest))
    (λ e. record { before = []; back = drop (length close) (b ∷ rest); stands = begins_is close (b ∷ rest) e; ends = omega arith; first = λ earlier back k. omega arith })
    (λ e. later close b rest (through close rest) e (first_close close rest h))

-- where the first close is, is one place
once : (close text : List ℕ) (found other : Option ℕ) → IsFirstClose close text found → IsFirstClose close text other → found ≡ other
once close text None None h k = refl
once close text None (Some n) h k = absurd (h k.before k.back k.stands)
once close text (Some n) None h k = absurd (k h.before h.back h.stands)
once close text (Some n) (Some m) h k =
    let here = h.first k.before k.back k.stands in
    let there = k.first h.before h.back h.stands in
    let same : n ≡ m = omega (arith, h.ends, k.ends, here, there) in
    ap Some same

pub through_is : (close text : List ℕ) (found : Option ℕ) → 0 < length close → IsFirstClose close text found → through close text ≡ found
through_is close text found some h = once close text (through close text) found (first_close close text some) h
