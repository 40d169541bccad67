-- Cuts of a text: how far they reach, where the tokens among the lexemes stand, and one lexeme more.
use Rattle.std.proofs.Common.{◌≡◌, ℕ, ◌+◌, ◌<◌, ◌≤◌, List, [], ◌∷◌, ◌++◌, length, drop, Option, Some, None, Ok, sym, ap, ◌∙◌, arith, append_assoc, append-nil, length-drop, get_or, zero, suc}
use Rattle.std.proofs.lemmas.List.{nil_from_length}
use Rattle.bx_lex.specs.declared.token.Token.{Token}
use Rattle.bx_lex.specs.declared.token.TokenKind.{TokenKind}
use Rattle.bx_lex.specs.declared.rules.Lexeme.{Lexeme}
use Rattle.bx_lex.specs.Rules.{front}
use Rattle.bx_lex.specs.Tokens.{TokenList, HasTokens, IsCut, token_at, tokens_at, AreSpans}
use Rattle.bx_lex.proofs.Sizes.{lexeme_taken}

-- the lexemes and the rest are the text
pub cut_room : (from : ℕ) (text : List ℕ) (ps : List Lexeme) (place : ℕ) (rest : List ℕ) → IsCut from text ps place rest → place + length rest ≡ from + length text
cut_room from text [] place rest cut = omega (arith, cut.0, ap length cut.1)
cut_room from text (p ∷ ps) place rest cut =
    let size = lexeme_taken from text p cut.0 in
    let tail = cut_room (from + p.len) (drop p.len text) ps place rest cut.1 in
    omega (arith, length-drop {A = ℕ}, size.1, tail)

spans_before : (from after : ℕ) (ts : List Token) (to : ℕ) → from ≤ after → AreSpans after ts to → AreSpans from ts to
spans_before from after [] to h s = omega arith
spans_before from after (t ∷ ts) to h s = (omega (arith, s.0), s.1, s.2)

spans_first : (from n : ℕ) (kind : Option TokenKind) (ts : List Token) (to : ℕ) → 0 < n → AreSpans (from + n) ts to → AreSpans from (token_at from (from + n) kind ++ ts) to
spans_first from n None ts to h s = spans_before from (from + n) ts to (omega arith) s
spans_first from n (Some kind) ts to h s = (omega arith, omega arith, s)

-- the tokens stand in order
pub cut_spans : (from : ℕ) (text : List ℕ) (ps : List Lexeme) (place : ℕ) (rest : List ℕ) → IsCut from text ps place rest → AreSpans from (tokens_at from ps) place
cut_spans from text [] place rest cut = omega (arith, cut.0)
cut_spans from text (p ∷ ps) place rest cut =
    spans_first from p.len p.kind (tokens_at (from + p.len) ps) place (lexeme_taken from text p cut.0).0 (cut_spans (from + p.len) (drop p.len text) ps place rest cut.1)

cut_more : (from : ℕ) (text : List ℕ) (ps : List Lexeme) (place : ℕ) (rest : List ℕ) (p : Lexeme) → IsCut from text ps place rest → front place rest ≡ Ok p → IsCut from text (ps ++ p ∷ []) (place + p.len) (drop p.len rest)
cut_more from text [] place rest p cut e = (rw (cut.0, cut.1) e, (ap (λ n. n + p.len) cut.0, ap (drop p.len) cut.1))
cut_more from text (q ∷ ps) place rest p cut e = (cut.0, cut_more (from + q.len) (drop q.len text) ps place rest p cut.1 e)

tokens_more : (from : ℕ) (text : List ℕ) (ps : List Lexeme) (place : ℕ) (rest : List ℕ) (p : Lexeme) → IsCut from text ps place rest → tokens_at from (ps ++ p ∷ []) ≡ tokens_at from ps ++ token_at place (place + p.len) p.kind
tokens_more from text [] place rest p cut = append-nil _ ∙ ap (λ n. token_at n (n + p.len) p.kind) cut.0
tokens_more from text (q ∷ ps) place rest p cut =
    ap (λ ts. token_at from (from + q.len) q.kind ++ ts) (tokens_more (from + q.len) (drop q.len text) ps place rest p cut.1)
    ∙ sym (append_assoc (token_at from (from + q.len) q.kind) _ _)

-- the text has been cut up to a place, and these are the tokens so far
pub record Reaches (text : List ℕ) (tokens : List Token) (place : ℕ) (rest : List ℕ) : Type 0 where
  pub lexemes : List Lexeme
  pub cut : IsCut 0 text lexemes place rest
  pub found : tokens ≡ tokens_at 0 lexemes

pub reaches_more : (text : List ℕ) (tokens : List Token) (place : ℕ) (rest : List ℕ) (p : Lexeme) → Reaches text tokens place rest → front place rest ≡ Ok p → Reaches text (tokens ++ token_at place (place + p.len) p.kind) (place + p.len) (drop p.len rest)
reaches_more text tokens place rest p r e = record {
  lexemes = r.lexemes ++ p ∷ [];
  cut = cut_more 0 text r.lexemes place rest p r.cut e;
  found = ap (λ ts. ts ++ token_at place (place + p.len) p.kind) r.found ∙ sym (tokens_more 0 text r.lexemes place rest p r.cut);
}

pub reaches_room : (text : List ℕ) (tokens : List Token) (place : ℕ) (rest : List ℕ) → Reaches text tokens place rest → place + length rest ≡ length text
reaches_room text tokens place rest r = omega (arith, cut_room 0 text r.lexemes place rest r.cut)

-- nothing is left
pub reaches_end : (text : List ℕ) (tokens : List Token) (place : ℕ) (rest : List ℕ) → Reaches text tokens place rest → length rest ≡ 0 → HasTokens text (record { tokens = tokens; end = length text })
reaches_end text tokens place rest r e =
    let whole : place ≡ length text = omega (arith, e, reaches_room text tokens place rest r) in
    record { lexemes = r.lexemes; cut = rw (← whole, ← nil_from_length rest e) r.cut; tokens = r.found }

pub tokens_spans : (text : List ℕ) (found : TokenList) → HasTokens text found → AreSpans 0 found.tokens found.end
tokens_spans text found h = rw h.tokens (cut_spans 0 text h.lexemes found.end [] h.cut)

pub tokens_whole : (text : List ℕ) (found : TokenList) → HasTokens text found → found.end ≡ length text
tokens_whole text found h = omega (arith, cut_room 0 text h.lexemes found.end [] h.cut)

spans_le : (from : ℕ) (ts : List Token) (to : ℕ) → AreSpans from ts to → from ≤ to
spans_le from [] to s = s
spans_le from (t ∷ ts) to s = omega (arith, s.0, s.1, spans_le t.end ts to s.2)

pub span_at : (from : ℕ) (ts : List Token) (to k : ℕ) (d : Token) → AreSpans from ts to → k < length ts → ((get_or ts k d).start < (get_or ts k d).end) × ((get_or ts k d).end ≤ to)
span_at from [] to k d s h = absurd (omega arith)
span_at from (t ∷ ts) to zero d s h = (s.1, spans_le t.end ts to s.2)
span_at from (t ∷ ts) to (suc k) d s h = span_at t.end ts to k d s.2 (omega arith)
