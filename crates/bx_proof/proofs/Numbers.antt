-- Signed numbers and hints at the front of bytes.
use Rattle.std.proofs.Common.{◌≡◌, ℕ, zero, suc, ◌<◌, ◌≤◌, ◌^◌, Bool, true, false, List, ◌∷◌, ◌++◌, refl, sym, ◌∙◌, ap, subst, inl, arith}
use Rattle.std.proofs.lemmas.Fmt.{decimal_digit}
use Rattle.std.proofs.lemmas.Int.{ints, to_z-of_z}
use Rattle.std.proofs.Common.{to_z, of_z, w32}
use Rattle.std.specs.Prelude.{decimal, ℤ, pos, negsuc, FitsSigned}
use Rattle.bx_cnf.specs.Literals.{Literal, IsLiteral, literal_of, literal_text}
use Rattle.bx_lines.specs.Decimals.{EndsNumber, IsNumberAt}
use Rattle.bx_lines.proofs.Numbers.{one_number, no_number}
use Rattle.bx_proof.specs.Readings.{IsSigned, IsSignedAt, IsHint}
use Rattle.bx_proof.proofs.Closed.{IsSpelling}

pub decimal_zero : (s : List ℕ) → decimal 0 ++ s ≡ 48 ∷ s
decimal_zero s = ap (λ ds. ds ++ s) (decimal_digit 0 (omega arith))

pub zero_at : (bytes s : List ℕ) → bytes ≡ 48 ∷ s → EndsNumber s → IsNumberAt bytes 0 s
zero_at bytes s e stops = record { spelled = e ∙ sym (decimal_zero s); stops = stops }

pub hint_spelling : IsSpelling decimal IsHint
hint_spelling = record {
  one = λ x y r s px py stops_r stops_s e. one_number (decimal x ++ r) x y r s (omega (arith, px.1)) (omega (arith, py.1)) (record { spelled = refl; stops = stops_r }) (record { spelled = e; stops = stops_s });
  some = λ x r s px stops_r stops_s e.
      let same = one_number (decimal x ++ r) x 0 r s (omega (arith, px.1)) (omega arith) (record { spelled = refl; stops = stops_r }) (zero_at (decimal x ++ r) s e stops_s) in
      omega (arith, px.0, same.0);
}

abbrev pub literal : ℕ → Bool → Literal
literal var positive = record { var = var; positive = positive }

-- a minus begins no number
pub minus_first : (bytes behind : List ℕ) (n : ℕ) (rest : List ℕ) → n < 2 ^ 31 → bytes ≡ 45 ∷ behind → bytes ≡ decimal n ++ rest → EndsNumber rest → ⊥
minus_first bytes behind n rest small minus e stops =
    let before : EndsNumber (45 ∷ behind) = inl (omega arith) in
    no_number bytes n rest (omega arith) (subst EndsNumber (sym minus) before) (record { spelled = e; stops = stops })

one_signed : (p q : Bool) (m n : ℕ) (r s : List ℕ) → m < 2 ^ 31 → n < 2 ^ 31 → EndsNumber r → EndsNumber s → literal_text (literal m p) ++ r ≡ literal_text (literal n q) ++ s → (literal m p ≡ literal n q) × (r ≡ s)
one_signed true true m n r s small_m small_n stops_r stops_s e =
    let same = one_number (decimal m ++ r) m n r s (omega arith) (omega arith) (record { spelled = refl; stops = stops_r }) (record { spelled = e; stops = stops_s }) in
    (ap (λ k. literal k true) same.0, same.1)
one_signed true false m n r s small_m small_n stops_r stops_s e = absurd (minus_first (decimal m ++ r) (decimal n ++ s) m r small_m e refl stops_r)
one_signed false true m n r s small_m small_n stops_r stops_s e = absurd (minus_first (decimal n ++ s) (decimal m ++ r) n s small_n (sym e) refl stops_s)
one_signed false false m n r s small_m small_n stops_r stops_s e =
    let both : 45 ∷ (decimal m ++ r) ≡ 45 ∷ (decimal n ++ s) = e in
    let tail : decimal m ++ r ≡ decimal n ++ s = cc in
    let same = one_number (decimal m ++ r) m n r s (omega arith) (omega arith) (record { spelled = refl; stops = stops_r }) (record { spelled = tail; stops = stops_s }) in
    (ap (λ k. literal k false) same.0, same.1)

pub literal_spelling : IsSpelling literal_text IsLiteral
literal_spelling = record {
  one = λ x y r s px py stops_r stops_s e. one_signed x.positive y.positive x.var y.var r s px.below py.below stops_r stops_s e;
  some = λ x r s px stops_r stops_s e.
      let same = one_signed x.positive true x.var 0 r s px.below (omega arith) stops_r stops_s (e ∙ sym (decimal_zero s)) in
      let var : x.var ≡ 0 = ap (λ (l : Literal). l.var) same.0 in
      omega (arith, px.above, var);
}

-- a literal is a signed number, and so is 0
pub signed_literal : (l : Literal) → IsLiteral l → IsSigned l
signed_literal l is = record { small = is.below; negative = λ e. is.above }

pub signed_zero : IsSigned (literal 0 true)
signed_zero = record { small = omega arith; negative = λ e. (let never : ⊥ = cc in absurd never) }

pub zero_signed_at : (bytes s : List ℕ) → bytes ≡ 48 ∷ s → EndsNumber s → IsSignedAt bytes (literal 0 true) s
zero_signed_at bytes s e stops = record { spelled = e ∙ sym (decimal_zero s); stops = stops }

-- a signed number that is no literal is 0
pub no_literal : (l : Literal) → IsSigned l → (IsLiteral l → ⊥) → l ≡ literal 0 true
no_literal l is none = by_sign l.positive l.var is.small is.negative none where
  by_sign : (p : Bool) (n : ℕ) → n < 2 ^ 31 → (p ≡ false → 0 < n) → (IsLiteral (literal n p) → ⊥) → literal n p ≡ literal 0 true
  by_sign true zero small positive none = refl
  by_sign true (suc n) small positive none = absurd (none (record { above = omega arith; below = small }))
  by_sign false n small positive none = absurd (none (record { above = positive refl; below = small }))

-- a signed number is read as it was written
signed_fits : (z : ℤ) → IsSigned (literal_of z) → FitsSigned w32 z
signed_fits (pos n) is = omega (arith, ints, is.small)
signed_fits (negsuc n) is = omega (arith, ints, is.small)

pub as_written : (z : ℤ) → IsSigned (literal_of z) → to_z w32 (of_z w32 z) ≡ z
as_written z is = to_z-of_z w32 z (signed_fits z is)

-- behind a minus there is no number, or 0, and so no signed number
pub no_minus : (bytes digits : List ℕ) → bytes ≡ 45 ∷ digits → ((n : ℕ) (rest : List ℕ) → n ≤ 2147483647 → IsNumberAt digits n rest → ⊥) → (l : Literal) (rest : List ℕ) → IsSigned l → IsSignedAt bytes l rest → ⊥
no_minus bytes digits minus none l rest is at = by_sign l.positive l.var is.small at.spelled where
  by_sign : (p : Bool) (n : ℕ) → n < 2 ^ 31 → bytes ≡ literal_text (literal n p) ++ rest → ⊥
  by_sign true n small e = minus_first bytes digits n rest small minus e at.stops
  by_sign false n small e =
      let both : 45 ∷ digits ≡ 45 ∷ (decimal n ++ rest) = sym minus ∙ e in
      let tail : digits ≡ decimal n ++ rest = cc in
      none n rest (omega (arith, small)) (record { spelled = tail; stops = at.stops })

pub minus_zero : (bytes digits behind : List ℕ) (z : ℕ) → bytes ≡ 45 ∷ digits → IsNumberAt digits z behind → z ≡ 0 → (l : Literal) (rest : List ℕ) → IsSigned l → IsSignedAt bytes l rest → ⊥
minus_zero bytes digits behind z minus number none_less l rest is at = by_sign l.positive l.var is.small is.negative at.spelled where
  by_sign : (p : Bool) (n : ℕ) → n < 2 ^ 31 → (p ≡ false → 0 < n) → bytes ≡ literal_text (literal n p) ++ rest → ⊥
  by_sign true n small negative e = minus_first bytes digits n rest small minus e at.stops
  by_sign false n small negative e =
      let both : 45 ∷ digits ≡ 45 ∷ (decimal n ++ rest) = sym minus ∙ e in
      let tail : digits ≡ decimal n ++ rest = cc in
      let same = one_number digits z n behind rest (omega (arith, none_less)) (omega (arith, small)) number (record { spelled = tail; stops = at.stops }) in
      let some : 0 < n = negative refl in
      omega (arith, same.0, none_less, some)
