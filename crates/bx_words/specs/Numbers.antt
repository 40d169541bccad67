-- Numbers as the words give them.
use Rattle.std.specs.Prelude.{◌≡◌, ℕ, ◌&&◌, Bool, false, not, List, length, nat_lt, nat_le, Option, find}
use Rattle.std.specs.Option.{option_map_or}
use Rattle.std.specs.List.{Contains, list_all}
use Rattle.std.specs.Char.{is_ascii_digit}
use Rattle.std.specs.Str.Parse.{digits_value}
use Rattle.bx_words.specs.declared.opts.Opt.{Opt}
use Rattle.bx_words.specs.Options.{least_of, most_of}
use Rattle.bx_words.specs.Verbs.{Text}

-- the texts that are given for options
abbrev pub Given : Type 0
Given = Opt → Option Text

-- one to ten decimal digits: leading zeros are taken, and signs aren't
abbrev pub is_number : Text → Bool
is_number text = nat_lt 0 (length text) && (nat_le (length text) 10 && list_all is_ascii_digit text)

-- the number that they are
abbrev pub number_of : Text → ℕ
number_of text = digits_value 10 text

-- an option takes the number
abbrev pub is_in_range : Opt → ℕ → Bool
is_in_range option n = nat_le (least_of option) n && nat_le n (most_of option)

-- a text is given for the option, and it is no number
abbrev pub is_no_number : Given → Opt → Bool
is_no_number given option = option_map_or (λ text. not (is_number text)) (given option) false

-- a number is given for the option, and it doesn't take it
abbrev pub is_out_of_range : Given → Opt → Bool
is_out_of_range given option =
    option_map_or (λ text. is_number text && not (is_in_range option (number_of text))) (given option) false

-- the first of the options of which that holds
abbrev pub first_no_number : List Opt → Given → Option Opt
first_no_number options given = find (is_no_number given) options

abbrev pub first_out_of_range : List Opt → Given → Option Opt
first_out_of_range options given = find (is_out_of_range given) options

-- the text that is given for the option, if any, is a number that it takes
abbrev pub IsTaken : Given → Opt → Type 0
IsTaken given option = (is_no_number given option ≡ false) × (is_out_of_range given option ≡ false)

-- so it is with each of these
abbrev pub AreTaken : List Opt → Given → Type 0
AreTaken options given = (option : Opt) → Contains options option → IsTaken given option
