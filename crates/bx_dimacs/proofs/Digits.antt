-- The numbers that digits spell, byte by byte.
use Rattle.std.proofs.Common.{◌≡◌, ℕ, ◌+◌, ◌-◌, ◌*◌, ◌^◌, ◌<◌, ◌≤◌, Bool, true, false, cond, List, [], ◌∷◌, length, drop, get_or, rules, Option, Some, None, refl, sym, ◌∙◌, ap, subst, inl, inr, arith}
use Rattle.std.specs.Char.{is_ascii_digit}
use Rattle.std.specs.Prelude.{codes}
use Rattle.std.specs.List.{list_all}
use Rattle.std.specs.Str.Parse.{digits_value}
use Rattle.std.proofs.lemmas.Str.Parse.{IsDigitsTest, IsNumeralModel, numerals_by_value}
use Rattle.std.proofs.lemmas.Bool.{cases_lt, le-ltb, lt-ltb}
use Rattle.std.proofs.lemmas.List.{drop_more, drop_all}
use Rattle.bx_dimacs.specs.Words.{digits_behind, below, number_of}
use Rattle.bx_dimacs.specs.FormulaTexts.{empty_text_of, empty_text, header_of}

-- a number only grows with more digits
pub digits_past : (limit n : ℕ) (bs : List ℕ) → limit ≤ n → below limit (digits_behind n bs) ≡ None
digits_past limit n [] past = ap (λ t. cond t (Some n) None) (le-ltb n limit past)
digits_past limit n (b ∷ bs) past = at (is_ascii_digit b) (digits_past limit (10 * n + (b - 48)) bs (omega (arith, past))) where
  at : (t : Bool) → below limit (digits_behind (10 * n + (b - 48)) bs) ≡ None → below limit (cond t (digits_behind (10 * n + (b - 48)) bs) None) ≡ None
  at true rest = rest
  at false rest = refl

-- a byte that is a digit, and one that is none
pub digits_more : (word : List ℕ) (n k b : ℕ) → k < length word → b ≡ get_or word k 0 → is_ascii_digit b ≡ true → digits_behind n (drop k word) ≡ digits_behind (10 * n + (b - 48)) (drop (k + 1) word)
digits_more word n k b within is digit =
    let P : ℕ → Type 0 = λ c. is_ascii_digit c ≡ true → digits_behind n (drop k word) ≡ digits_behind (10 * n + (c - 48)) (drop (k + 1) word) in
    subst P (sym is) (λ yes. ap (digits_behind n) (drop_more word k 0 within) ∙ ap (λ t. cond t (digits_behind (10 * n + (get_or word k 0 - 48)) (drop (k + 1) word)) None) yes) digit

pub digits_stop : (word : List ℕ) (n k b : ℕ) → k < length word → b ≡ get_or word k 0 → is_ascii_digit b ≡ false → digits_behind n (drop k word) ≡ None
digits_stop word n k b within is digit =
    let P : ℕ → Type 0 = λ c. is_ascii_digit c ≡ false → digits_behind n (drop k word) ≡ None in
    subst P (sym is) (λ no. ap (digits_behind n) (drop_more word k 0 within) ∙ ap (λ t. cond t (digits_behind (10 * n + (get_or word k 0 - 48)) (drop (k + 1) word)) None) no) digit

-- digits, as the library tests them
are_told : IsDigitsTest (λ ds. list_all is_ascii_digit ds ≡ true)
are_told = search rules

pub model : IsNumeralModel (λ ds. list_all is_ascii_digit ds ≡ true) (digits_value 10)
model = numerals_by_value (λ ds. list_all is_ascii_digit ds ≡ true) are_told

-- the number of a word, by its digits
pub number_by : (bits : ℕ) (word : List ℕ) (found : Option ℕ) → 0 < length word → below (2 ^ bits) (digits_behind 0 word) ≡ found → number_of bits word ≡ found
number_by bits [] found some is = absurd (omega (arith, some))
number_by bits (b ∷ bs) found some is = is

pub below_one : (limit n : ℕ) → n < limit → below limit (Some n) ≡ Some n
below_one limit n lt = ap (λ t. cond t (Some n) None) (lt-ltb n limit lt)

-- a word whose number grows past the limit spells none, and one whose digits are read spells their number
pub number_past : (bits : ℕ) (word : List ℕ) (n k : ℕ) → 0 < length word → k < length word → is_ascii_digit (get_or word k 0) ≡ true → digits_behind 0 word ≡ digits_behind n (drop k word) → 2 ^ bits ≤ 10 * n + (get_or word k 0 - 48) → number_of bits word ≡ None
number_past bits word n k some within digit so_far past =
    number_by bits word None some (ap (below (2 ^ bits)) (so_far ∙ digits_more word n k (get_or word k 0) within refl digit) ∙ digits_past (2 ^ bits) (10 * n + (get_or word k 0 - 48)) (drop (k + 1) word) past)

pub number_read : (bits : ℕ) (word : List ℕ) (n k : ℕ) → 0 < length word → length word ≤ k → digits_behind 0 word ≡ digits_behind n (drop k word) → n < 2 ^ bits → number_of bits word ≡ Some n
number_read bits word n k some past so_far lt =
    number_by bits word (Some n) some (ap (below (2 ^ bits)) (so_far ∙ ap (digits_behind n) (drop_all k word past)) ∙ below_one (2 ^ bits) n lt)

-- a number of 32 bits has 31 where it is below their limit
fewer : (o : Option ℕ) → below (2 ^ 31) o ≡ below (2 ^ 31) (below (2 ^ 32) o)
fewer None = refl
fewer (Some n) = elim (cases_lt n (2 ^ 32)) [
  | inl lt ↦ ap (below (2 ^ 31)) (sym (below_one (2 ^ 32) n lt))
  | inr past ↦ ap (λ t. cond t (Some n) None) (le-ltb n (2 ^ 31) (omega (arith, past))) ∙ ap (λ t. below (2 ^ 31) (cond t (Some n) None)) (sym (le-ltb n (2 ^ 32) past))
]

pub number_fewer : (word : List ℕ) → number_of 31 word ≡ below (2 ^ 31) (number_of 32 word)
number_fewer [] = refl
number_fewer (b ∷ bs) = fewer (digits_behind 0 (b ∷ bs))

-- a header of four words
pub header_four : (line behind_p behind_cnf behind_vars rest : List (List ℕ)) (vars count : List ℕ) → line ≡ codes "p" ∷ behind_p → behind_p ≡ codes "cnf" ∷ behind_cnf → behind_cnf ≡ vars ∷ behind_vars → behind_vars ≡ count ∷ rest → rest ≡ [] → header_of line ≡ empty_text_of (number_of 31 vars) (number_of 32 count)
header_four line behind_p behind_cnf behind_vars rest vars count a b c d e =
    ap header_of (a ∙ ap (λ ws. codes "p" ∷ ws) (b ∙ ap (λ ws. codes "cnf" ∷ ws) (c ∙ ap (λ ws. vars ∷ ws) (d ∙ ap (λ ws. count ∷ ws) e))))

pub declares_none : (vars count : List ℕ) → number_of 32 vars ≡ None → empty_text_of (number_of 31 vars) (number_of 32 count) ≡ None
declares_none vars count none = ap (λ v. empty_text_of v (number_of 32 count)) (number_fewer vars ∙ ap (below (2 ^ 31)) none)

pub declares_many : (vars count : List ℕ) (n : ℕ) → number_of 32 vars ≡ Some n → 2147483647 < n → empty_text_of (number_of 31 vars) (number_of 32 count) ≡ None
declares_many vars count n is many = ap (λ v. empty_text_of v (number_of 32 count)) (number_fewer vars ∙ ap (below (2 ^ 31)) is ∙ ap (λ t. cond t (Some n) None) (le-ltb n (2 ^ 31) (omega (arith, many))))

pub declares : (vars count : List ℕ) (n k : ℕ) → number_of 32 vars ≡ Some n → n ≤ 2147483647 → number_of 32 count ≡ Some k → empty_text_of (number_of 31 vars) (number_of 32 count) ≡ Some (empty_text n k)
declares vars count n k is few counts =
    ap (λ v. empty_text_of v (number_of 32 count)) (number_fewer vars ∙ ap (below (2 ^ 31)) is ∙ below_one (2 ^ 31) n (omega (arith, few))) ∙ ap (empty_text_of (Some n)) counts
