-- Numbers are plain, and so is a text that passes the test.
use Rattle.std.proofs.Common.{◌≡◌, ℕ, zero, suc, ◌+◌, ◌/◌, ◌%◌, Bool, true, false, [], ◌∷◌, arith}
use Rattle.std.specs.Prelude.{◌≢◌, ◌==◌, ◌&&◌, not, decimal, if◌then◌else◌}
use Rattle.std.specs.List.{list_all}
use Rattle.std.specs.Fmt.{digits, digits_onto, digit_glyph}
use Rattle.std.proofs.lemmas.Bool.{and_parts}
use Rattle.bx_says.specs.Texts.{Text, IsPlain}

glyph-plain : (b : Bool) (d : ℕ) → ((if b then 48 + d else 87 + d) ≢ 32) × ((if b then 48 + d else 87 + d) ≢ 10)
glyph-plain true d = ((λ e. absurd (omega arith)), (λ e. absurd (omega arith)))
glyph-plain false d = ((λ e. absurd (omega arith)), (λ e. absurd (omega arith)))

either-plain : (b : Bool) (x y : Text) → IsPlain x → IsPlain y → IsPlain (if b then x else y)
either-plain true x y p q = p
either-plain false x y p q = q

digits-plain : (k n : ℕ) (after : Text) → IsPlain after → IsPlain (digits_onto k 10 false n after)
digits-plain zero n after p = p
digits-plain (suc k) n after p =
    let more : IsPlain (digit_glyph false (n % 10) ∷ after) = (glyph-plain _ (n % 10), p) in
    either-plain (n / 10 == 0) _ _ more (digits-plain k (n / 10) (digit_glyph false (n % 10) ∷ after) more)

pub decimal-plain : (n : ℕ) → IsPlain (decimal n)
unfolding digits
decimal-plain n = digits-plain 64 n [] tt

abbrev pub is_plain : Text → Bool
is_plain text = list_all (λ byte. not (byte == 32) && not (byte == 10)) text

byte-plain : (byte : ℕ) → (not (byte == 32) && not (byte == 10)) ≡ true → (byte ≢ 32) × (byte ≢ 10)
byte-plain byte e = grind arith

pub plain-tested : (text : Text) → is_plain text ≡ true → IsPlain text
plain-tested [] e = tt
plain-tested (byte ∷ text) e =
    let both = and_parts (not (byte == 32) && not (byte == 10)) (is_plain text) e in
    (byte-plain byte both.0, plain-tested text both.1)
