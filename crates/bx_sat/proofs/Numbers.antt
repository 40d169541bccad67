-- What `parse` reads from digits is the number that they are.
use Rattle.std.proofs.Common.{◌≡◌, ℕ, ◌<◌, ◌^◌, ◌&&◌, nat_lt, Bool, true, false, List, length, Result, Ok, Err, Some, None, rules, refl, sym, ap, ◌∙◌, true≢false}
use Rattle.std.specs.Prelude.{if◌then◌else◌}
use Rattle.std.specs.Char.{is_ascii_digit}
use Rattle.std.specs.List.{list_all}
use Rattle.std.specs.Result.{result_ok, OkIff}
use Rattle.std.specs.Str.Parse.{ParsesUnsigned, digits_value}
use Rattle.std.proofs.lemmas.Str.Parse.{parse_digits}
use Rattle.bx_dimacs.proofs.Digits.{model}
use Rattle.bx_sat.specs.Words.{number_of}

-- an answer that is one just where a test holds
by_test : {E : Type 0} (b : Bool) (P : Type 0) (v : ℕ) (r : Result ℕ E) → OkIff r P v → (b ≡ true → P) → (P → b ≡ true) → result_ok r ≡ (if b then Some v else None)
by_test true P v (Ok x) h to from = ap Some h.1
by_test true P v (Err e) h to from = absurd (h (to refl))
by_test false P v (Ok x) h to from = absurd (true≢false (sym (from h.0)))
by_test false P v (Err e) h to from = refl

-- both tests hold
to_both : (n v m : ℕ) → (nat_lt 0 n && nat_lt v m) ≡ true → (0 < n) × (v < m)
to_both n v m is = search rules

from_both : (n v m : ℕ) → (0 < n) × (v < m) → (nat_lt 0 n && nat_lt v m) ≡ true
from_both n v m both = search rules

pub number_read : {E : Type 0} (bs : List ℕ) (r : Result ℕ E) → ParsesUnsigned 64 10 bs r → list_all is_ascii_digit bs ≡ true → result_ok r ≡ number_of bs
number_read {E} bs r h digits =
    let v : ℕ = digits_value 10 bs in
    by_test (nat_lt 0 (length bs) && nat_lt v (2 ^ 64)) _ v r (parse_digits model 64 bs r h digits) (to_both (length bs) v (2 ^ 64)) (from_both (length bs) v (2 ^ 64))
    ∙ ap (λ (b : Bool). if b && (nat_lt 0 (length bs) && nat_lt v (2 ^ 64)) then Some v else None) (sym digits)
