-- The classes of bytes that the rules speak of. Letters, digits and white space are std's of ASCII.
use Rattle.std.specs.Prelude.{ℕ, Bool, not, ◌==◌, ◌&&◌, ◌||◌, nat_le, codes}
use Rattle.std.specs.List.{list_any}
use Rattle.std.specs.Char.{is_ascii_alphabetic, is_ascii_alphanumeric, is_ascii_digit}
use Rattle.bx_lex.specs.declared.bytes.Class.{Class}
use Rattle.bx_lex.specs.declared.bytes.Class.TheVariants.{Line, Word, Shown, Digit, Based}

-- a letter or '_'
abbrev pub is_word_start : ℕ → Bool
is_word_start b = is_ascii_alphabetic b || b == 95

-- a letter, a digit, '_' or '$'
abbrev pub is_word_byte : ℕ → Bool
is_word_byte b = is_ascii_alphanumeric b || b == 95 || b == 36

-- a byte 33 to 126
abbrev pub is_shown : ℕ → Bool
is_shown b = nat_le 33 b && nat_le b 126

-- the letter of a base
abbrev pub is_base : ℕ → Bool
is_base b = list_any (λ c. c == b) (codes "bBoOdDhH")

-- a letter, a digit or '_'
abbrev pub is_number_byte : ℕ → Bool
is_number_byte b = is_ascii_alphanumeric b || b == 95

-- a byte of punctuation that is a symbol
unfoldable pub is_symbol : ℕ → Bool
is_symbol b = list_any (λ c. c == b) (codes "(),;=~&^|[]{}#@?:.+-*/%<>!'\"$`")

-- the classes of which a rule takes the longest run
abbrev pub is_of : Class → ℕ → Bool
is_of Line b = not (b == 10)
is_of Word b = is_word_byte b
is_of Shown b = is_shown b
is_of Digit b = is_ascii_digit b
is_of Based b = is_number_byte b
