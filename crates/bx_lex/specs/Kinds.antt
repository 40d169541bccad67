-- What each lexeme of a text is, in words of its own bytes and not of the order of the rules. A text
-- here begins with the lexeme, and n is how many bytes the lexeme has. No two of these hold of one text:
-- each holds exactly where the rule for it is the first that fits.
use Rattle.std.specs.Prelude.{◌≡◌, ◌≢◌, ◌⊎◌, ℕ, ◌+◌, ◌-◌, ◌<◌, ◌≤◌, Bool, true, false, not, ◌==◌, ◌&&◌, ◌||◌, List, length, drop, codes, slice_index, Option, Some, None}
use Rattle.std.specs.Char.{is_ascii_digit, is_ascii_whitespace}
use Rattle.bx_lex.specs.declared.token.Token.{Token}
use Rattle.bx_lex.specs.declared.token.TokenKind.{TokenKind}
use Rattle.bx_lex.specs.declared.token.TokenKind.TheVariants.{Word, Escaped, Number, Symbol}
use Rattle.bx_lex.specs.declared.token.LexFault.{LexFault}
use Rattle.bx_lex.specs.declared.token.LexFault.TheVariants.{BadByte, OpenComment, OpenAttribute, NoMemory}
use Rattle.bx_lex.specs.Bytes.{is_word_start, is_word_byte, is_shown, is_base, is_number_byte, is_symbol}
use Rattle.bx_lex.specs.Rules.{begins, FirstClose, IsFirstClose}

-- Each of the first n bytes passes the test, and the byte behind them, if there is one, doesn't.
pub record IsLongestRun (test : ℕ → Bool) (text : List ℕ) (n : ℕ) : Type 0 where
  pub inside : n ≤ length text
  pub pass : (k : ℕ) → k < n → test (slice_index text k) ≡ true
  pub behind : n < length text → test (slice_index text n) ≡ false

-- The first byte is no symbol by itself: with the next one it opens what is skipped, or is a symbol of
-- two bytes. `(*)` opens nothing.
abbrev pub is_pair : List ℕ → Bool
is_pair text =
    begins (codes "//") text
    || (begins (codes "/*") text
    || ((begins (codes "(*") text && not (begins (codes "(*)") text))
    || (begins (codes "~^") text || begins (codes "^~") text)))

-- `'` and the letter of a base
abbrev pub StartsBase : List ℕ → Type 0
StartsBase text = (slice_index text 0 ≡ 39) × (is_base (slice_index text 1) ≡ true)

-- a base with its digits, a run that can't be longer and may be empty; or nothing, where no base starts
abbrev pub IsBase : List ℕ → ℕ → Type 0
IsBase text n =
    (StartsBase text × ((m : ℕ) × (n ≡ 2 + m) × IsLongestRun is_number_byte (drop 2 text) m))
    ⊎ ((n ≡ 0) × (StartsBase text → ⊥))

-- A number is a size, which is a run of digits that can't be longer, and the base behind it.
pub record IsNumber (text : List ℕ) (n : ℕ) : Type 0 where
  pub size : ℕ
  pub base : ℕ
  pub whole : n ≡ size + base
  pub some : 0 < size
  pub digits : IsLongestRun is_ascii_digit text size
  pub behind : IsBase (drop size text) base

abbrev pub IsTokenOf : TokenKind → List ℕ → ℕ → Type 0
IsTokenOf Word text n = (is_word_start (slice_index text 0) ≡ true) × IsLongestRun is_word_byte text n
IsTokenOf Escaped text n = (slice_index text 0 ≡ 92) × (1 < n) × IsLongestRun is_shown (drop 1 text) (n - 1)
IsTokenOf Number text n = IsNumber text n
IsTokenOf Symbol text n =
    ((n ≡ 1) × (is_symbol (slice_index text 0) ≡ true) × (is_pair text ≡ false))
    ⊎ ((n ≡ 2) × ((begins (codes "~^") text ≡ true) ⊎ (begins (codes "^~") text ≡ true)))

-- the token is one of its kind where it stands
abbrev pub IsOneIn : List ℕ → Token → Type 0
IsOneIn text t = IsTokenOf t.kind (drop t.start text) (t.end - t.start)

-- the two bytes that open it, and all up to the end of the first close behind them
abbrev pub IsClosed : List ℕ → List ℕ → List ℕ → ℕ → Type 0
IsClosed opening close text n = (begins opening text ≡ true) × ((m : ℕ) × (n ≡ 2 + m) × FirstClose close (drop 2 text) m)

-- white space, a comment to the end of the line, a comment with its close, or an attribute, which `(*)`
-- doesn't open
abbrev pub IsGap : List ℕ → ℕ → Type 0
IsGap text n =
    ((n ≡ 1) × (is_ascii_whitespace (slice_index text 0) ≡ true))
    ⊎ (((begins (codes "//") text ≡ true) × IsLongestRun (λ b. not (b == 10)) text n)
    ⊎ (IsClosed (codes "/*") (codes "*/") text n
    ⊎ ((begins (codes "(*)") text ≡ false) × IsClosed (codes "(*") (codes "*)") text n)))

-- a token of its kind, or what stands between tokens
abbrev pub IsOfKind : Option TokenKind → List ℕ → ℕ → Type 0
IsOfKind None text n = IsGap text n
IsOfKind (Some kind) text n = IsTokenOf kind text n

-- a `\` with no byte behind it that shows, or a byte that begins nothing
abbrev pub IsBad : List ℕ → Type 0
IsBad text =
    ((slice_index text 0 ≡ 92) × (is_shown (slice_index (drop 1 text) 0) ≡ false))
    ⊎ ((slice_index text 0 ≢ 92) × (is_ascii_whitespace (slice_index text 0) ≡ false) × (is_word_start (slice_index text 0) ≡ false)
    × (is_ascii_digit (slice_index text 0) ≡ false) × (is_symbol (slice_index text 0) ≡ false))

-- what opens it stands there, and nothing behind it closes it
abbrev pub IsOpen : List ℕ → List ℕ → List ℕ → Type 0
IsOpen opening close text = (begins opening text ≡ true) × IsFirstClose close (drop 2 text) None

-- the fault of a text that stands at a place
abbrev pub IsFaultAt : ℕ → List ℕ → LexFault → Type 0
IsFaultAt place text (BadByte at) = (at ≡ place) × IsBad text
IsFaultAt place text (OpenComment at) = (at ≡ place) × IsOpen (codes "/*") (codes "*/") text
IsFaultAt place text (OpenAttribute at) = (at ≡ place) × (begins (codes "(*)") text ≡ false) × IsOpen (codes "(*") (codes "*)") text
IsFaultAt place text NoMemory = ⊥
