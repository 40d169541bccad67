-- What the tokens of a text are: from its first byte on, the text is cut into lexemes, each of them what
-- the first rule that fits takes of what is left.
use Rattle.std.specs.Prelude.{◌≡◌, ℕ, ◌+◌, ◌-◌, ◌<◌, ◌≤◌, List, [], ◌∷◌, ◌++◌, drop, length, Option, Some, None, Result, Ok, Err}
use Rattle.bx_lex.specs.declared.token.TokenKind.{TokenKind}
use Rattle.bx_lex.specs.declared.token.Token.{Token}
use Rattle.bx_lex.specs.declared.token.LexFault.{LexFault}
use Rattle.bx_lex.specs.declared.rules.Lexeme.{Lexeme}
use Rattle.bx_lex.specs.Rules.{front, token_of}

-- tokens in the order of a text, and the length of the text
pub record TokenList : Type 0 where
  pub tokens : List Token
  pub end : ℕ

abbrev pub token_list : List Token → ℕ → TokenList
token_list tokens end = record { tokens = tokens; end = end }

-- The text at a place begins with these lexemes, and goes on with the rest at the place behind them.
abbrev pub IsCut : ℕ → List ℕ → List Lexeme → ℕ → List ℕ → Type 0
IsCut place text [] behind rest = (place ≡ behind) × (text ≡ rest)
IsCut place text (p ∷ ps) behind rest = (front place text ≡ Ok p) × IsCut (place + p.len) (drop p.len text) ps behind rest

-- the token that stands from one place to another, if it is one
abbrev pub token_at : ℕ → ℕ → Option TokenKind → List Token
token_at place behind None = []
token_at place behind (Some kind) = record { start = place; end = behind; kind = kind } ∷ []

-- the tokens among lexemes of which the first stands at this place
abbrev pub tokens_at : ℕ → List Lexeme → List Token
tokens_at place [] = []
tokens_at place (p ∷ ps) = token_at place (place + p.len) p.kind ++ tokens_at (place + p.len) ps

-- The text is cut to its end, and these are the tokens among its lexemes.
pub record HasTokens (text : List ℕ) (found : TokenList) : Type 0 where
  pub lexemes : List Lexeme
  pub cut : IsCut 0 text lexemes found.end []
  pub tokens : found.tokens ≡ tokens_at 0 lexemes

-- The text is cut up to a place at which no rule takes anything, and this is the fault there.
pub record HasFault (text : List ℕ) (fault : LexFault) : Type 0 where
  pub lexemes : List Lexeme
  pub place : ℕ
  pub rest : List ℕ
  pub cut : IsCut 0 text lexemes place rest
  pub goes_on : 0 < length rest
  pub stops : front place rest ≡ Err fault

-- what a text reads as: its tokens, or its first fault
abbrev pub Reading : Type 0
Reading = Result TokenList LexFault

abbrev pub Reads : List ℕ → Reading → Type 0
Reads text (Ok found) = HasTokens text found
Reads text (Err fault) = HasFault text fault

-- Spans in order from one place to another, none of them empty.
abbrev pub AreSpans : ℕ → List Token → ℕ → Type 0
AreSpans from [] to = from ≤ to
AreSpans from (t ∷ ts) to = (from ≤ t.start) × (t.start < t.end) × AreSpans t.end ts to

-- a text's tokens stand in order inside it, and none is empty
abbrev pub AreInOrder : TokenList → Type 0
AreInOrder found = AreSpans 0 found.tokens found.end

-- what the first rule that fits takes where the token stands is the token
abbrev pub IsTaken : List ℕ → Token → Type 0
IsTaken text t = front t.start (drop t.start text) ≡ Ok (token_of t.kind (t.end - t.start))
