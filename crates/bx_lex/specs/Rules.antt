-- The rules: what the first one that fits takes of a text.
use Rattle.std.specs.Prelude.{◌≢◌, ◌≡◌, ◌≤◌, ◌++◌, ℕ, ◌+◌, Bool, not, ◌==◌, ◌&&◌, ◌||◌, nat_eq, if◌then◌else◌, List, [], ◌∷◌, drop, codes, length, Option, Some, None, Result, Ok, Err, slice_index}
use Rattle.std.specs.List.{prefix_len, starts_with}
use Rattle.std.specs.Char.{is_ascii_digit, is_ascii_whitespace}
use Rattle.std.specs.Option.{option_map}
use Rattle.bx_lex.specs.declared.token.TokenKind.{TokenKind}
use Rattle.bx_lex.specs.declared.token.TokenKind.TheVariants.{Word, Escaped, Number, Symbol}
use Rattle.bx_lex.specs.declared.token.LexFault.{LexFault}
use Rattle.bx_lex.specs.declared.token.LexFault.TheVariants.{BadByte, OpenComment, OpenAttribute}
use Rattle.bx_lex.specs.declared.rules.Lexeme.{Lexeme}
use Rattle.bx_lex.specs.Bytes.{is_word_start, is_word_byte, is_shown, is_base, is_number_byte, is_symbol}

-- so many bytes that stand between tokens
abbrev pub gap : ℕ → Lexeme
gap n = record { len = n; kind = None }

-- a token of so many bytes
abbrev pub token_of : TokenKind → ℕ → Lexeme
token_of kind n = record { len = n; kind = Some kind }

-- the text begins with these bytes
abbrev pub begins : List ℕ → List ℕ → Bool
begins front text = starts_with nat_eq text front

-- how many bytes stand before the next line feed, or before the end of the text
abbrev pub line_len : List ℕ → ℕ
line_len text = prefix_len (λ b. not (b == 10)) text

-- how many bytes there are up to the end of the first `close`
abbrev pub through : List ℕ → List ℕ → Option ℕ
through close [] = None
through close (b ∷ rest) = if begins close (b ∷ rest) then Some (length close) else option_map (λ n. n + 1) (through close rest)

-- all up to the end of what closes it, or the fault where nothing does
abbrev pub gap_or : LexFault → Option ℕ → Result Lexeme LexFault
gap_or fault None = Err fault
gap_or fault (Some n) = Ok (gap (2 + n))

-- a comment or an attribute: the two bytes that open it, and all up to the end of the first `close` behind them
abbrev pub gap_to : List ℕ → LexFault → List ℕ → Result Lexeme LexFault
gap_to close fault text = gap_or fault (through close (drop 2 text))

-- `'`, a letter of a base, and the longest run of letters, digits and `_`, where the first two stand there
abbrev pub base_len : List ℕ → ℕ
base_len text =
    if (slice_index text 0 == 39) && is_base (slice_index text 1) then 2 + prefix_len is_number_byte (drop 2 text) else 0

-- the longest run of digits, and a base behind it
abbrev pub number_len : List ℕ → ℕ
number_len text = let digits = prefix_len is_ascii_digit text in digits + base_len (drop digits text)

-- `\`, and the longest run of bytes that show, which isn't empty
abbrev pub escape_at : ℕ → List ℕ → Result Lexeme LexFault
escape_at place text =
    let run = prefix_len is_shown (drop 1 text) in
    if run == 0 then Err (BadByte place) else Ok (token_of Escaped (1 + run))

-- What the first rule that fits takes of the text that stands at this place, or the fault there.
unfoldable pub front : ℕ → List ℕ → Result Lexeme LexFault
front place text =
    if is_ascii_whitespace (slice_index text 0) then Ok (gap 1)
    else (if begins (codes "//") text then Ok (gap (line_len text))
    else (if begins (codes "/*") text then gap_to (codes "*/") (OpenComment place) text
    else (if begins (codes "(*)") text then Ok (token_of Symbol 1)
    else (if begins (codes "(*") text then gap_to (codes "*)") (OpenAttribute place) text
    else (if is_word_start (slice_index text 0) then Ok (token_of Word (prefix_len is_word_byte text))
    else (if slice_index text 0 == 92 then escape_at place text
    else (if is_ascii_digit (slice_index text 0) then Ok (token_of Number (number_len text))
    else (if begins (codes "~^") text || begins (codes "^~") text then Ok (token_of Symbol 2)
    else (if is_symbol (slice_index text 0) then Ok (token_of Symbol 1)
    else Err (BadByte place))))))))))

-- A text is some bytes, this close and what stands behind it, and no close begins sooner.
pub record FirstClose (close text : List ℕ) (n : ℕ) : Type 0 where
  pub before : List ℕ
  pub back : List ℕ
  pub stands : text ≡ before ++ close ++ back
  pub ends : n ≡ length before + length close
  pub first : (earlier rest : List ℕ) → text ≡ earlier ++ close ++ rest → length before ≤ length earlier

-- behind how many bytes the first close of a text ends, or that none stands in it
abbrev pub IsFirstClose : List ℕ → List ℕ → Option ℕ → Type 0
IsFirstClose close text None = (earlier rest : List ℕ) → text ≢ earlier ++ close ++ rest
IsFirstClose close text (Some n) = FirstClose close text n
