-- What the first rule that fits takes is of its kind, and a fault is what it says.
use Rattle.std.proofs.Common.{cond, not, false, [], ◌∷◌, ◌≡◌, ℕ, ◌+◌, ◌-◌, Bool, true, List, drop, get_or, Option, Some, None, Result, Ok, Err, IfOk, IfErr, refl, ap, subst, arith, codes, ◌<◌, ◌==◌, ◌||◌, ◌&&◌, inl, inr}
use Rattle.std.specs.Prelude.{All}
use Rattle.std.specs.List.{prefix_len}
use Rattle.std.specs.Char.{is_ascii_digit, is_ascii_whitespace}
use Rattle.std.proofs.lemmas.Bool.{and_left, and_from, and_parts, both_ways, or_cases, or_from, eq-eqb, eqb-true, eqb-false}
use Rattle.std.proofs.lemmas.List.Sums.{prefix_len-le-length, prefix_len_passes, prefix_len_stops}
use Rattle.std.proofs.lemmas.List.Elements.{All-weaker}
use Rattle.bx_lex.specs.declared.token.TokenKind.TheVariants.{Word, Escaped, Number, Symbol}
use Rattle.bx_lex.specs.declared.token.LexFault.{LexFault}
use Rattle.bx_lex.specs.declared.token.LexFault.TheVariants.{BadByte, OpenComment, OpenAttribute, NoMemory}
use Rattle.bx_lex.specs.declared.rules.Lexeme.{Lexeme}
use Rattle.bx_lex.specs.Bytes.{is_word_start, is_word_byte, is_shown, is_base, is_number_byte, is_symbol}
use Rattle.bx_lex.specs.Rules.{begins, line_len, gap, token_of, through, gap_or, gap_to, base_len, number_len, escape_at, front, FirstClose, IsFirstClose}
use Rattle.bx_lex.specs.Kinds.{IsLongestRun, IsBase, IsNumber, is_pair, IsOneIn, IsGap, IsOfKind, IsFaultAt}
use Rattle.bx_lex.specs.Tokens.{TokenList, HasTokens, HasFault, IsTaken}
use Rattle.bx_lex.proofs.Begins.{either, begins_is, begins_first}
use Rattle.bx_lex.proofs.Closes.{first_close}
use Rattle.bx_lex.proofs.Places.{tokens_taken}
use Rattle.bx_lex.proofs.Sizes.{run_some}

record Known (place : ℕ) (text : List ℕ) (r : Result Lexeme LexFault) : Type 0 where
  pub kind : IfOk r (λ p. IsOfKind p.kind text p.len)
  pub fault : IfErr r (λ f. IsFaultAt place text f)

known : (place : ℕ) (text : List ℕ) (p : Lexeme) → IsOfKind p.kind text p.len → Known place text (Ok p)
known place text p h = record { kind = h; fault = tt }

fault : (place : ℕ) (text : List ℕ) (f : LexFault) → IsFaultAt place text f → Known place text (Err f)
fault place text f h = record { kind = tt; fault = h }

pub run_is : (test : ℕ → Bool) (text : List ℕ) → IsLongestRun test text (prefix_len test text)
run_is test text = record {
  inside = prefix_len-le-length test text;
  pass = λ k h. prefix_len_passes test text k 0 h;
  behind = λ h. prefix_len_stops test text 0 h;
}

not_counted : (b : Bool) (n : ℕ) → cond b (1 + n) 0 ≡ 0 → b ≡ false
not_counted true n e = absurd (omega (arith, e))
not_counted false n e = refl

no_run : (test : ℕ → Bool) (text : List ℕ) → test 0 ≡ false → prefix_len test text ≡ 0 → test (get_or text 0 0) ≡ false
no_run test [] h e = h
no_run test (b ∷ rest) h e = not_counted (test b) (prefix_len test rest) e

digit_some : (text : List ℕ) → is_ascii_digit (get_or text 0 0) ≡ true → 0 < prefix_len is_ascii_digit text
digit_some [] e = absurd (both_ways false refl e)
digit_some (b ∷ rest) e = run_some is_ascii_digit (b ∷ rest) (omega arith) e

base_known : (text : List ℕ) → IsBase text (base_len text)
base_known text =
    let quote : Bool = get_or text 0 0 == 39 in
    let letter : Bool = is_base (get_or text 1 0) in
    either (IsBase text) (quote && letter) (2 + prefix_len is_number_byte (drop 2 text)) 0
    (λ e. let both = and_parts quote letter e in inl ((eqb-true _ 39 both.0, both.1), (prefix_len is_number_byte (drop 2 text), refl, run_is is_number_byte (drop 2 text))))
    (λ e. inr (refl, λ starts. both_ways (quote && letter) e (and_from quote letter (eq-eqb _ 39 starts.0) starts.1)))

number_known : (text : List ℕ) → is_ascii_digit (get_or text 0 0) ≡ true → IsNumber text (number_len text)
number_known text e = record {
  size = prefix_len is_ascii_digit text;
  base = base_len (drop (prefix_len is_ascii_digit text) text);
  whole = refl;
  some = digit_some text e;
  digits = run_is is_ascii_digit text;
  behind = base_known (drop (prefix_len is_ascii_digit text) text);
}

gap_or_known : (place : ℕ) (text close : List ℕ) (f : LexFault) (found : Option ℕ) → (IsFirstClose close (drop 2 text) None → IsFaultAt place text f) → ((n : ℕ) → FirstClose close (drop 2 text) n → IsGap text (2 + n)) → IsFirstClose close (drop 2 text) found → Known place text (gap_or f found)
gap_or_known place text close f None opens closes h = fault place text f (opens h)
gap_or_known place text close f (Some n) opens closes h = known place text (gap (2 + n)) (closes n h)

comment_known : (place : ℕ) (text : List ℕ) → begins (codes "/*") text ≡ true → Known place text (gap_to (codes "*/") (OpenComment place) text)
comment_known place text e =
    gap_or_known place text (codes "*/") (OpenComment place) (through (codes "*/") (drop 2 text)) (λ h. (refl, (e, h))) (λ n h. inr (inr (inl (e, (n, refl, h))))) (first_close (codes "*/") (drop 2 text) (omega arith))

attribute_known : (place : ℕ) (text : List ℕ) → begins (codes "(*)") text ≡ false → begins (codes "(*") text ≡ true → Known place text (gap_to (codes "*)") (OpenAttribute place) text)
attribute_known place text three e =
    gap_or_known place text (codes "*)") (OpenAttribute place) (through (codes "*)") (drop 2 text)) (λ h. (refl, three, (e, h))) (λ n h. inr (inr (inr (three, (e, (n, refl, h)))))) (first_close (codes "*)") (drop 2 text) (omega arith))

escaped_known : (place : ℕ) (text : List ℕ) → get_or text 0 0 ≡ 92 → Known place text (escape_at place text)
escaped_known place text h =
    let run = prefix_len is_shown (drop 1 text) in
    either (Known place text) (run == 0) _ _ (λ e. fault place text (BadByte place) (refl, inl (h, no_run is_shown (drop 1 text) refl (eqb-true run 0 e))))
    (λ e. let some : ¬ (run ≡ 0) = eqb-false run 0 e in
    let same : run ≡ 1 + run - 1 = omega arith in
    known place text (token_of Escaped (1 + run)) (h, omega (arith, some), subst (IsLongestRun is_shown (drop 1 text)) same (run_is is_shown (drop 1 text))))

opening_known : (place : ℕ) (text : List ℕ) → begins (codes "(*)") text ≡ true → Known place text (Ok (token_of Symbol 1))
unfolding is_symbol
opening_known place text e =
    known place text (token_of Symbol 1) (inl (refl, ap is_symbol (begins_first 40 (codes "*)") text e), ap is_pair (begins_is (codes "(*)") text e)))

-- the bytes of a symbol of one byte, behind all rules before
alone : (text : List ℕ) → begins (codes "//") text ≡ false → begins (codes "/*") text ≡ false → begins (codes "(*") text ≡ false → (begins (codes "~^") text || begins (codes "^~") text) ≡ false → is_pair text ≡ false
alone text line comment attribute pair = or_from _ _ line (or_from _ _ comment (or_from _ _ (and_left _ _ attribute) pair))

front_known : (place : ℕ) (text : List ℕ) → Known place text (front place text)
unfolding front
front_known place text =
    let P = Known place text in
    either P (is_ascii_whitespace (get_or text 0 0)) _ _ (λ e. known place text (gap 1) (inl (refl, e)))
    (λ white. either P (begins (codes "//") text) _ _ (λ e. known place text (gap (line_len text)) (inr (inl (e, run_is (λ b. not (b == 10)) text))))
    (λ line. either P (begins (codes "/*") text) _ _ (λ e. comment_known place text e)
    (λ comment. either P (begins (codes "(*)") text) _ _ (λ e. opening_known place text e)
    (λ three. either P (begins (codes "(*") text) _ _ (λ e. attribute_known place text three e)
    (λ attribute. either P (is_word_start (get_or text 0 0)) _ _ (λ e. known place text (token_of Word (prefix_len is_word_byte text)) (e, run_is is_word_byte text))
    (λ word. either P (get_or text 0 0 == 92) _ _ (λ e. escaped_known place text (eqb-true _ 92 e))
    (λ escape. either P (is_ascii_digit (get_or text 0 0)) _ _ (λ e. known place text (token_of Number (number_len text)) (number_known text e))
    (λ digit. either P (begins (codes "~^") text || begins (codes "^~") text) _ _ (λ e. known place text (token_of Symbol 2) (inr (refl, or_cases _ _ e)))
    (λ pair. either P (is_symbol (get_or text 0 0)) _ _ (λ e. known place text (token_of Symbol 1) (inl (refl, e, alone text line comment attribute pair)))
    (λ other. fault place text (BadByte place) (refl, inr (eqb-false _ 92 escape, white, word, digit, other))))))))))))

pub taken_of_kind : (place : ℕ) (text : List ℕ) (p : Lexeme) → front place text ≡ Ok p → IsOfKind p.kind text p.len
taken_of_kind place text p e = (subst (Known place text) e (front_known place text)).kind

pub fault_at : (place : ℕ) (text : List ℕ) (f : LexFault) → front place text ≡ Err f → IsFaultAt place text f
fault_at place text f e = (subst (Known place text) e (front_known place text)).fault

pub tokens_of_kind : (text : List ℕ) (found : TokenList) → HasTokens text found → All (IsOneIn text) found.tokens
tokens_of_kind text found h =
    All-weaker (IsTaken text) (IsOneIn text) (λ t e. taken_of_kind t.start (drop t.start text) (token_of t.kind (t.end - t.start)) e) found.tokens (tokens_taken text found h)

pub faults_given : (text : List ℕ) → HasFault text NoMemory → ⊥
faults_given text h = fault_at h.place h.rest NoMemory h.stops
