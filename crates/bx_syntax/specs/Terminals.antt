-- The terminals of a text: what each of its tokens is to the grammar.
use Rattle.std.specs.Prelude.{ℕ, Bool, true, false, ◌==◌, ◌&&◌, ◌||◌, if◌then◌else◌, List, [], ◌∷◌, drop, map, Option, Some, None, slice_range}
use Rattle.bx_lex.specs.declared.token.Token.{Token}
use Rattle.bx_lex.specs.declared.token.TokenKind.{TokenKind}
use Rattle.bx_lex.specs.declared.token.TokenKind.TheVariants.{Word, Escaped, Number as NumberToken, Symbol as SymbolToken}
use Rattle.bx_lex.specs.Bytes.{is_base}
use Rattle.bx_syntax.specs.declared.terminal.Terminal.{Terminal}
use Rattle.bx_syntax.specs.declared.terminal.Terminal.TheVariants.{Fixed, Name, Bit, Number, Symbol}
use Rattle.bx_syntax.specs.declared.terminal.Mark.{Mark}
use Rattle.bx_syntax.specs.declared.terminal.Mark.TheVariants.{Open, Close, Comma, Semicolon, Equals, Tilde, Ampersand, Caret, TildeCaret, Bar}
use Rattle.bx_syntax.specs.Words.{word_terminal}

-- a symbol of one byte that the grammar uses
abbrev pub one_symbol : ℕ → Option Mark
one_symbol b =
    if b == 40 then Some Open
    else (if b == 41 then Some Close
    else (if b == 44 then Some Comma
    else (if b == 59 then Some Semicolon
    else (if b == 61 then Some Equals
    else (if b == 126 then Some Tilde
    else (if b == 38 then Some Ampersand
    else (if b == 94 then Some Caret
    else (if b == 124 then Some Bar
    else None))))))))

abbrev pub mark_or_symbol : ℕ → Option Mark → Terminal
mark_or_symbol b (Some s) = Fixed s
mark_or_symbol b None = Symbol b

-- the symbols of two bytes are `~^` and `^~`
abbrev pub is_xnor : ℕ → ℕ → Bool
is_xnor a b = ((a == 126) && (b == 94)) || ((a == 94) && (b == 126))

abbrev pub symbol_terminal : List ℕ → Terminal
symbol_terminal [] = Symbol 0
symbol_terminal (b ∷ []) = mark_or_symbol b (one_symbol b)
symbol_terminal (a ∷ b ∷ []) = if is_xnor a b then Fixed TildeCaret else Symbol a
symbol_terminal (a ∷ b ∷ c ∷ rest) = Symbol a

-- `1'`, the letter of a base, and `0` or `1`
abbrev pub number_terminal : List ℕ → Terminal
number_terminal (a ∷ b ∷ c ∷ d ∷ []) =
    if ((a == 49) && (b == 39)) && is_base c
    then (if d == 48 then Bit false else (if d == 49 then Bit true else Number))
    else Number
number_terminal _ = Number

abbrev pub terminal_of_kind : TokenKind → List ℕ → Terminal
terminal_of_kind Word bytes = word_terminal bytes
terminal_of_kind Escaped bytes = Name (drop 1 bytes)
terminal_of_kind NumberToken bytes = number_terminal bytes
terminal_of_kind SymbolToken bytes = symbol_terminal bytes

unfoldable pub terminal_of : List ℕ → Token → Terminal
terminal_of text t = terminal_of_kind t.kind (slice_range text t.start t.end)

-- the terminals of the tokens of a text
abbrev pub terminals_of : List ℕ → List Token → List Terminal
terminals_of text tokens = map (terminal_of text) tokens
