-- Where a token stands, the first rule takes it.
use Rattle.std.proofs.Common.{◌≡◌, ℕ, ◌+◌, ◌-◌, List, [], ◌∷◌, drop, Option, Some, None, Ok, sym, ap, ◌∙◌, arith, add_assoc}
use Rattle.std.specs.Prelude.{All}
use Rattle.std.proofs.lemmas.List.{drop-drop}
use Rattle.std.proofs.lemmas.List.Elements.{All-nil, All-cons, All-append, All-weaker, All-same}
use Rattle.bx_lex.specs.declared.token.Token.{Token}
use Rattle.bx_lex.specs.declared.token.TokenKind.{TokenKind}
use Rattle.bx_lex.specs.declared.rules.Lexeme.{Lexeme}
use Rattle.bx_lex.specs.Rules.{front, token_of}
use Rattle.bx_lex.specs.Tokens.{TokenList, HasTokens, IsCut, IsTaken, token_at, tokens_at}

-- the first rule takes the token from a text that begins at a place
record Takes (from : ℕ) (text : List ℕ) (t : Token) : Type 0 where
  pub before : ℕ
  pub start : t.start ≡ from + before
  pub taken : front t.start (drop before text) ≡ Ok (token_of t.kind (t.end - t.start))

later : (from n : ℕ) (text : List ℕ) (t : Token) → Takes (from + n) (drop n text) t → Takes from text t
later from n text t h = record {
  before = n + h.before;
  start = h.start ∙ add_assoc from n h.before;
  taken = ap (front t.start) (sym (drop-drop h.before n text)) ∙ h.taken;
}

first : (from n : ℕ) (kind : Option TokenKind) (text : List ℕ) → front from text ≡ Ok (record { len = n; kind = kind }) → All (Takes from text) (token_at from (from + n) kind)
first from n None text e = All-nil (Takes from text)
first from n (Some kind) text e =
    let same : n ≡ from + n - from = omega arith in
    All-cons (Takes from text) _ [] (record { before = 0; start = omega arith; taken = e ∙ ap (λ m. Ok (token_of kind m)) same }) (All-nil (Takes from text))

all : (from : ℕ) (text : List ℕ) (ps : List Lexeme) (place : ℕ) (rest : List ℕ) → IsCut from text ps place rest → All (Takes from text) (tokens_at from ps)
all from text [] place rest cut = All-nil (Takes from text)
all from text (p ∷ ps) place rest cut =
    All-append (Takes from text) (token_at from (from + p.len) p.kind) (tokens_at (from + p.len) ps) (first from p.len p.kind text cut.0)
    (All-weaker (Takes (from + p.len) (drop p.len text)) (Takes from text) (later from p.len text) (tokens_at (from + p.len) ps) (all (from + p.len) (drop p.len text) ps place rest cut.1))

pub tokens_taken : (text : List ℕ) (found : TokenList) → HasTokens text found → All (IsTaken text) found.tokens
tokens_taken text found h =
    All-weaker (Takes 0 text) (IsTaken text)
    (λ t w. let same : t.start ≡ w.before = omega (arith, w.start) in ap (λ n. front t.start (drop n text)) same ∙ w.taken)
    found.tokens (All-same (Takes 0 text) found.tokens (tokens_at 0 h.lexemes) h.tokens (all 0 text h.lexemes found.end [] h.cut))
