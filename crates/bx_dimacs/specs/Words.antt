-- The lines of a text, the words of a line, and the numbers that words spell.
use Rattle.std.specs.Prelude.{ℕ, zero, suc, ◌+◌, ◌-◌, ◌*◌, ◌==◌, ◌^◌, Bool, true, false, List, [], ◌∷◌, length, map, filter, not, nat_lt, Option, Some, None, option_map, ℤ, pos, negsuc, slice_index, if◌then◌else◌}
use Rattle.std.specs.List.{slice_split, onto_first, enumerate_from}
use Rattle.std.specs.Str.{bytes_eq}
use Rattle.std.specs.Char.{is_ascii_digit, is_ascii_whitespace}

-- the lines of a text, without the line feeds that end them; the last may have none
abbrev pub lines_of : List ℕ → List (List ℕ)
lines_of [] = []
lines_of (b ∷ bs) = if b == 10 then [] ∷ lines_of bs else onto_first b (lines_of bs)

-- the words of a line: the parts between blanks, tabs, form feeds and carriage returns that aren't empty
abbrev pub words_of : List ℕ → List (List ℕ)
words_of line = filter (λ part. nat_lt 0 (length part)) (slice_split is_ascii_whitespace line)

-- a line has no word, or the first begins with c
abbrev pub is_passed_over : List (List ℕ) → Bool
is_passed_over [] = true
is_passed_over (word ∷ words) = slice_index word 0 == 99

-- the first word of a line is this one
abbrev pub begins_with : List ℕ → List (List ℕ) → Bool
begins_with front [] = false
begins_with front (word ∷ words) = bytes_eq word front

-- a line as its number and its words
abbrev pub Line : Type 0
Line = ℕ × List (List ℕ)

-- the lines of a text that aren't passed over; the first line of the text has this number
abbrev pub lines_from : ℕ → List ℕ → List Line
lines_from number text = filter (λ line. not (is_passed_over line.1)) (enumerate_from number (map words_of (lines_of text)))

-- the number of the line behind the last
abbrev pub last_from : ℕ → List ℕ → ℕ
last_from number text = number + length (lines_of text)

-- the number that digits spell behind those of another
abbrev pub digits_behind : ℕ → List ℕ → Option ℕ
digits_behind n [] = Some n
digits_behind n (b ∷ bs) = if is_ascii_digit b then digits_behind (10 * n + (b - 48)) bs else None

-- the number, where it is below a limit
abbrev pub below : ℕ → Option ℕ → Option ℕ
below limit None = None
below limit (Some n) = if nat_lt n limit then Some n else None

-- the number of so many bits at most that a word of digits spells
abbrev pub number_of : ℕ → List ℕ → Option ℕ
number_of bits [] = None
number_of bits (b ∷ bs) = below (2 ^ bits) (digits_behind 0 (b ∷ bs))

-- a number below 0; there is no -0
abbrev pub negative : Option ℕ → Option ℤ
negative None = None
negative (Some zero) = None
negative (Some (suc n)) = Some (negsuc n)

-- the number that a word spells, whose digits have 63 bits at most
abbrev pub signed_of : List ℕ → Option ℤ
signed_of [] = None
signed_of (b ∷ bs) = if b == 45 then negative (number_of 63 bs) else option_map pos (number_of 63 (b ∷ bs))
