-- What the words of a command line ask for.
use Rattle.std.specs.Prelude.{ℕ, ◌^◌, ◌&&◌, not, Bool, List, [], ◌∷◌, length, map, codes, nat_lt, Option, Some, None, option_map, if◌then◌else◌, String, string_bytes}
use Rattle.std.specs.Char.{is_ascii_digit}
use Rattle.std.specs.List.{list_all}
use Rattle.std.specs.Option.{option_or}
use Rattle.std.specs.Str.{bytes_eq}
use Rattle.std.specs.Str.Parse.{digits_value}
use Rattle.bx_says.specs.Texts.{Text}

-- words as texts
abbrev pub texts : {A : Type 0} → List (String A) → List Text
texts words = map string_bytes words

-- check the proof in a file for the formula in another, with so many workers, or solve the formula, within a budget or
-- fast over so many conflicts, and write the proof that it has no solution where there is a name for it
pub data Request : Type 0 where
  check : (formula proof : Text) (workers : ℕ) → Request
  solve : (formula : Text) (budget : ℕ) (proof : Option Text) → Request
  solve_fast : (formula : Text) (conflicts : ℕ) (proof : Option Text) → Request

-- a number is one decimal digit or more, and below 2^64: leading zeros are taken, and signs aren't
abbrev pub is_number : Text → Bool
is_number word = list_all is_ascii_digit word && (nat_lt 0 (length word) && nat_lt (digits_value 10 word) (2 ^ 64))

abbrev pub number_of : Text → Option ℕ
number_of word = if is_number word then Some (digits_value 10 word) else None

-- from 1 to 16 workers
abbrev pub is_workers : ℕ → Bool
is_workers n = nat_lt 0 n && nat_lt n 17

abbrev pub workers_of : Text → Option ℕ
workers_of word = if is_number word && is_workers (digits_value 10 word) then Some (digits_value 10 word) else None

-- so many, where the words don't say
abbrev pub default_workers : ℕ
default_workers = 4

-- `check FORMULA PROOF` and `solve FORMULA BUDGET`
abbrev pub of_three : Text → Text → Text → Option Request
of_three verb formula third =
    if bytes_eq verb (codes "check") then Some (check formula third default_workers)
    else if bytes_eq verb (codes "solve") then option_map (λ budget. solve formula budget None) (number_of third)
    else None

-- `solve FORMULA BUDGET PROOF`, where a proof isn't written over its formula
abbrev pub of_four : Text → Text → Text → Text → Option Request
of_four verb formula third proof =
    if bytes_eq verb (codes "solve") && not (bytes_eq formula proof)
    then option_map (λ budget. solve formula budget (Some proof)) (number_of third)
    else None

-- `check FORMULA PROOF --workers N`
abbrev pub of_five : Text → Text → Text → Text → Text → Option Request
of_five verb formula proof option workers =
    if bytes_eq verb (codes "check") && bytes_eq option (codes "--workers") then option_map (check formula proof) (workers_of workers)
    else None

-- `check`, or `solve` within a budget
abbrev pub plain_of : List Text → Option Request
plain_of (verb ∷ formula ∷ third ∷ []) = of_three verb formula third
plain_of (verb ∷ formula ∷ third ∷ proof ∷ []) = of_four verb formula third proof
plain_of (verb ∷ formula ∷ proof ∷ option ∷ workers ∷ []) = of_five verb formula proof option workers
plain_of words = None

abbrev pub asks_fast : Text → Text → Bool
asks_fast verb option = bytes_eq verb (codes "solve") && bytes_eq option (codes "--fast")

-- `solve FORMULA --fast CONFLICTS`, and `solve FORMULA --fast CONFLICTS PROOF`, where a proof isn't written over its formula
abbrev pub fast_of : List Text → Option Request
fast_of (verb ∷ formula ∷ option ∷ conflicts ∷ []) =
    if asks_fast verb option then option_map (λ n. solve_fast formula n None) (number_of conflicts)
    else None
fast_of (verb ∷ formula ∷ option ∷ conflicts ∷ proof ∷ []) =
    if asks_fast verb option && not (bytes_eq formula proof)
    then option_map (λ n. solve_fast formula n (Some proof)) (number_of conflicts)
    else None
fast_of words = None

-- other words ask for nothing
abbrev pub request_of : List Text → Option Request
request_of words = option_or (fast_of words) (plain_of words)
