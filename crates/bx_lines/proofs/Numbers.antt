-- Decimal numbers at the front of bytes: where they end, and that there is one.
use Rattle.std.proofs.Common.{◌≡◌, ℕ, ◌+◌, ◌-◌, ◌*◌, ◌/◌, ◌%◌, ◌^◌, ◌<◌, ◌≤◌, List, [], ◌∷◌, ◌++◌, length, get_or, refl, sym, ◌∙◌, ap, subst, inl, inr, arith, append_assoc}
use Rattle.std.proofs.lemmas.Bool.{cases_order}
use Rattle.std.proofs.lemmas.List.{append_cancel_left}
use Rattle.std.proofs.lemmas.Fmt.{decimal_step, decimal_by_steps, decimal_digit, decimal_nonempty, first_decimal}
use Rattle.std.specs.Prelude.{◌⊎◌, decimal}
use Rattle.std.specs.List.{AllByRecursion}
use Rattle.bx_lines.specs.Decimals.{EndsNumber, IsNumberAt}

-- each byte is a digit
abbrev AreDigits : List ℕ → Type 0
AreDigits bytes = AllByRecursion (λ b. (48 ≤ b) × (b ≤ 57)) bytes

digits_push : (bytes : List ℕ) (b : ℕ) → AreDigits bytes → (48 ≤ b) × (b ≤ 57) → AreDigits (bytes ++ b ∷ [])
digits_push [] b digits is = (is, tt)
digits_push (c ∷ cs) b digits is = (digits.0, digits_push cs b digits.1 is)

pub decimal_digits : (n : ℕ) → n < 2 ^ 64 → AreDigits (decimal n)
decimal_digits n small = decimal_by_steps (λ m ds. AreDigits ds) (λ m lt. ((omega arith, omega arith), tt)) (λ m ds ge digits. digits_push ds (48 + m % 10) digits (omega arith, omega arith)) n small

-- the number that digits spell, behind those of another
abbrev value_after : ℕ → List ℕ → ℕ
value_after n [] = n
value_after n (b ∷ bs) = value_after (10 * n + (b - 48)) bs

value_push : (n : ℕ) (bytes : List ℕ) (b : ℕ) → value_after n (bytes ++ b ∷ []) ≡ 10 * value_after n bytes + (b - 48)
value_push n [] b = refl
value_push n (c ∷ cs) b = value_push (10 * n + (c - 48)) cs b

value_append : (n : ℕ) (xs ys : List ℕ) → value_after n (xs ++ ys) ≡ value_after (value_after n xs) ys
value_append n [] ys = refl
value_append n (x ∷ xs) ys = value_append (10 * n + (x - 48)) xs ys

value_le : (n : ℕ) (bytes : List ℕ) → n ≤ value_after n bytes
value_le n [] = omega arith
value_le n (b ∷ bs) = let rest = value_le (10 * n + (b - 48)) bs in omega (arith, rest)

value_decimal : (n : ℕ) → n < 2 ^ 64 → value_after 0 (decimal n) ≡ n
value_decimal n small = decimal_by_steps (λ m ds. value_after 0 ds ≡ m) one more n small where
  one : (m : ℕ) → m < 10 → value_after 0 ((48 + m) ∷ []) ≡ m
  one m lt = omega arith

  more : (m : ℕ) (ds : List ℕ) → 10 ≤ m → value_after 0 ds ≡ m / 10 → value_after 0 (ds ++ ((48 + m % 10) ∷ [])) ≡ m
  more m ds ge h = let push = value_push 0 ds (48 + m % 10) in omega (arith, push, h)

-- where digits stand at the front of bytes that begin with a run of bytes, the run goes as far at least
within_run : (run digits x y : List ℕ) → AreDigits digits → EndsNumber x → run ++ x ≡ digits ++ y → (more : List ℕ) × (run ≡ digits ++ more) × (y ≡ more ++ x)
within_run run [] x y are stops e = (run, refl, sym e)
within_run [] (d ∷ ds) x y are stops e = absurd (first x (ds ++ y) stops e) where
  first : (z w : List ℕ) → EndsNumber z → z ≡ d ∷ w → ⊥
  first [] w stops e = cc
  first (b ∷ bs) w stops e =
      let same : b ≡ d = cc in
      elim stops [ inl low ↦ omega (arith, are.0.0, low, same) | inr high ↦ omega (arith, are.0.1, high, same) ]
within_run (c ∷ cs) (d ∷ ds) x y are stops e =
    let head : c ≡ d = cc in
    let tail : cs ++ x ≡ ds ++ y = cc in
    let inner = within_run cs ds x y are.1 stops tail in
    (inner.0, ap (λ b. b ∷ cs) head ∙ ap (λ bs. d ∷ bs) inner.1, inner.2)

-- a number that stands at the front is at least one whose digits stand there
pub number_le : (m n : ℕ) (x y : List ℕ) → m < 2 ^ 64 → n < 2 ^ 64 → EndsNumber x → decimal m ++ x ≡ decimal n ++ y → n ≤ m
number_le m n x y small_m small_n stops e =
    let run = within_run (decimal m) (decimal n) x y (decimal_digits n small_n) stops e in
    let value : value_after 0 (decimal m) ≡ value_after n run.0 = ap (value_after 0) run.1 ∙ value_append 0 (decimal n) run.0 ∙ ap (λ k. value_after k run.0) (value_decimal n small_n) in
    let le = value_le n run.0 in
    omega (arith, value_decimal m small_m, value, le)

-- there is one number at the front of bytes
pub one_number : (bytes : List ℕ) (m n : ℕ) (x y : List ℕ) → m < 2 ^ 64 → n < 2 ^ 64 → IsNumberAt bytes m x → IsNumberAt bytes n y → (m ≡ n) × (x ≡ y)
one_number bytes m n x y small_m small_n a b =
    let e : decimal m ++ x ≡ decimal n ++ y = sym a.spelled ∙ b.spelled in
    let le = number_le m n x y small_m small_n a.stops e in
    let ge = number_le n m y x small_n small_m b.stops (sym e) in
    let same : m ≡ n = omega (arith, le, ge) in
    (same, append_cancel_left (decimal n) x y (ap (λ k. decimal k ++ x) (sym same) ∙ e))

-- a digit more
pub decimal_more : (n d : ℕ) → 0 < n → d < 10 → 10 * n + d < 2 ^ 64 → decimal (10 * n + d) ≡ decimal n ++ (48 + d) ∷ []
decimal_more n d some digit small =
    let quotient : (10 * n + d) / 10 ≡ n = omega arith in
    let remainder : (10 * n + d) % 10 ≡ d = omega arith in
    decimal_step (10 * n + d) (omega arith) small ∙ ap (λ k. decimal k ++ (48 + (10 * n + d) % 10) ∷ []) quotient ∙ ap (λ k. decimal n ++ (48 + k) ∷ []) remainder

-- bytes whose first is no digit begin with no number
pub no_number : (bytes : List ℕ) (n : ℕ) (rest : List ℕ) → n < 2 ^ 64 → EndsNumber bytes → IsNumberAt bytes n rest → ⊥
no_number bytes n rest small stops is =
    let run = within_run [] (decimal n) bytes rest (decimal_digits n small) stops is.spelled in
    let size = decimal_nonempty n small in
    clash (decimal n) run.0 size run.1 where
      clash : (ds more : List ℕ) → 0 < length ds → [] ≡ ds ++ more → ⊥
      clash [] more some e = omega arith
      clash (d ∷ ds) more some e = cc

-- a leading zero begins no number but 0, and that ends before a digit
pub no_leading_zero : (b : ℕ) (behind : List ℕ) (n : ℕ) (rest : List ℕ) → n < 2 ^ 64 → 48 ≤ b → b ≤ 57 → IsNumberAt (48 ∷ b ∷ behind) n rest → ⊥
no_leading_zero b behind n rest small low high is =
    elim (cases_order n 0) [
      | inl zero ↦
          let spelled : 48 ∷ b ∷ behind ≡ 48 ∷ rest = is.spelled ∙ ap (λ k. decimal k ++ rest) zero ∙ ap (λ ds. ds ++ rest) (decimal_digit 0 (omega arith)) in
          let tail : b ∷ behind ≡ rest = cc in
          stops_not rest tail is.stops
      | inr other ↦ elim other [
        | inl lt ↦ omega arith
        | inr gt ↦
            let first = first_decimal n gt small in
            let size = decimal_nonempty n small in
            above (decimal n) size first is.spelled
      ]
    ] where
      stops_not : (r : List ℕ) → b ∷ behind ≡ r → EndsNumber r → ⊥
      stops_not [] e stops = cc
      stops_not (c ∷ cs) e stops = let same : b ≡ c = cc in elim stops [ inl l ↦ omega (arith, l, same) | inr h ↦ omega (arith, h, same) ]

      above : (ds : List ℕ) → 0 < length ds → 48 < get_or ds 0 0 → 48 ∷ b ∷ behind ≡ ds ++ rest → ⊥
      above [] some first e = omega arith
      above (d ∷ ds) some first e = let same : 48 ≡ d = cc in omega (arith, first, same)

-- the first digit
pub first_digit : (bytes : List ℕ) (b n : ℕ) (rest : List ℕ) → bytes ≡ b ∷ rest → 48 ≤ b → b ≤ 57 → n ≡ b - 48 → bytes ≡ decimal n ++ rest
first_digit bytes b n rest split low high is =
    let back : 48 + n ≡ b = omega arith in
    split ∙ ap (λ d. d ∷ rest) (sym back) ∙ ap (λ ds. ds ++ rest) (sym (decimal_digit n (omega arith)))

-- and each next
pub next_digit : (bytes : List ℕ) (n d b : ℕ) (rest behind : List ℕ) → bytes ≡ decimal n ++ rest → rest ≡ b ∷ behind → 0 < n → 48 ≤ b → b ≤ 57 → d ≡ b - 48 → 10 * n + d < 2 ^ 64 → bytes ≡ decimal (10 * n + d) ++ behind
next_digit bytes n d b rest behind split goes some low high is small =
    let back : b ≡ 48 + d = omega arith in
    split ∙ ap (λ xs. decimal n ++ xs) (goes ∙ ap (λ c. c ∷ behind) back) ∙ sym (append_assoc (decimal n) ((48 + d) ∷ []) behind) ∙ ap (λ ds. ds ++ behind) (sym (decimal_more n d some (omega arith) small))

-- bytes that begin with a byte that is no digit
pub no_digit : (bytes : List ℕ) (b n : ℕ) (behind rest : List ℕ) → n < 2 ^ 64 → bytes ≡ b ∷ behind → (b < 48) ⊎ (57 < b) → IsNumberAt bytes n rest → ⊥
no_digit bytes b n behind rest small split other is = no_number bytes n rest small (subst EndsNumber (sym split) other) is

-- bytes in which a digit follows a leading zero
pub zero_first : (bytes : List ℕ) (z b n : ℕ) (tail behind rest : List ℕ) → n < 2 ^ 64 → bytes ≡ decimal z ++ tail → z ≡ 0 → tail ≡ b ∷ behind → 48 ≤ b → b ≤ 57 → IsNumberAt bytes n rest → ⊥
zero_first bytes z b n tail behind rest small split zero goes low high is =
    let spelled : bytes ≡ 48 ∷ b ∷ behind = split ∙ ap (λ k. decimal k ++ tail) zero ∙ ap (λ ds. ds ++ tail) (decimal_digit 0 (omega arith)) ∙ ap (λ xs. 48 ∷ xs) goes in
    no_leading_zero b behind n rest small low high (subst (λ xs. IsNumberAt xs n rest) spelled is)
