-- What `parse` reads from one to ten digits.
use Rattle.std.proofs.Common.{◌≡◌, ℕ, ◌<◌, ◌≤◌, ◌^◌, ◌&&◌, nat_lt, nat_le, Bool, true, List, length, Result, Ok, Option, Some, None, arith, rules, sym, ap, ◌∙◌, ltb-true, leb-true}
use Rattle.std.specs.Prelude.{if◌then◌else◌}
use Rattle.std.specs.Result.{result_ok}
use Rattle.clap.proofs.WalkLemmas.{both}
use Rattle.bx_words.specs.Numbers.{is_number, number_of}
use Rattle.std.specs.Char.{is_ascii_digit}
use Rattle.std.specs.List.{list_all}
use Rattle.std.specs.Str.Parse.{ParsesUnsigned, digits_value}
use Rattle.std.proofs.lemmas.Str.Parse.{IsDigitsTest, IsNumeralModel, numerals_by_value, digits_value_short, parse_gives}

are_told : IsDigitsTest (λ ds. list_all is_ascii_digit ds ≡ true)
are_told = search rules

model : IsNumeralModel (λ ds. list_all is_ascii_digit ds ≡ true) (digits_value 10)
model = numerals_by_value (λ ds. list_all is_ascii_digit ds ≡ true) are_told

pub ten_digits : (bs : List ℕ) → list_all is_ascii_digit bs ≡ true → length bs ≤ 10 → digits_value 10 bs < 10 ^ 10
ten_digits bs all few = digits_value_short model bs 10 all few

pub reads_digits : {E : Type 0} (bs : List ℕ) (r : Result ℕ E) → ParsesUnsigned 64 10 bs r → list_all is_ascii_digit bs ≡ true
    → 0 < length bs → length bs ≤ 10 → r ≡ Ok (digits_value 10 bs)
reads_digits bs r h all some few = parse_gives model 64 bs r h all some (omega (arith, ten_digits bs all few))

-- a number as it is read
pub number_read : {E : Type 0} (bs : List ℕ) (r : Result ℕ E) (o : Option ℕ) → ParsesUnsigned 64 10 bs r → is_number bs ≡ true → o ≡ result_ok r
    → o ≡ (if is_number bs then Some (number_of bs) else None)
number_read {E} bs r o h is same =
    let p = both (nat_lt 0 (length bs)) (nat_le (length bs) 10 && list_all is_ascii_digit bs) is in
    let q = both (nat_le (length bs) 10) (list_all is_ascii_digit bs) p.1 in
    let read : r ≡ Ok (digits_value 10 bs) = reads_digits bs r h q.1 (ltb-true 0 (length bs) p.0) (leb-true (length bs) 10 q.0) in
    same ∙ ap result_ok read ∙ ap (λ (b : Bool). if b then Some (number_of bs) else None) (sym is)
