-- What the first rule that fits takes: at least one byte, and no more than there are.
use Rattle.std.proofs.Common.{◌≡◌, ℕ, ◌+◌, ◌<◌, ◌≤◌, Bool, true, List, [], ◌∷◌, length, drop, get_or, Option, Some, None, Result, Ok, Err, IfOk, IfSome, option_map, refl, ap, subst, arith, length-drop, length-append, codes, not, ◌==◌, ◌||◌, ◌&&◌, suc, ⊎_elim}
use Rattle.std.proofs.lemmas.Bool.{false≢true, and_parts, or_cases}
use Rattle.std.proofs.lemmas.Bool.Decides.{nat_tests}
use Rattle.std.specs.List.{prefix_len}
use Rattle.std.specs.Char.{is_ascii_digit, is_ascii_whitespace}
use Rattle.std.proofs.lemmas.List.Sums.{prefix_len-le-length}
use Rattle.bx_lex.specs.declared.token.TokenKind.{TokenKind}
use Rattle.bx_lex.specs.declared.token.TokenKind.TheVariants.{Word, Escaped, Number, Symbol}
use Rattle.bx_lex.specs.declared.token.LexFault.{LexFault}
use Rattle.bx_lex.specs.declared.token.LexFault.TheVariants.{BadByte}
use Rattle.bx_lex.specs.declared.rules.Lexeme.{Lexeme}
use Rattle.bx_lex.specs.Bytes.{is_word_start, is_word_byte, is_shown, is_base, is_number_byte, is_symbol}
use Rattle.bx_lex.specs.Rules.{begins, token_of, through, gap_or, gap_to, base_len, number_len, escape_at, front}
use Rattle.bx_lex.proofs.Begins.{chosen, begins_is, begins_first}

-- a lexeme of the text, or a fault
pub record Sized (text : List ℕ) (r : Result Lexeme LexFault) : Type 0 where
  pub within : IfOk r (λ p. (0 < p.len) × (p.len ≤ length text))

sized : (text : List ℕ) (kind : Option TokenKind) (n : ℕ) → 0 < n → n ≤ length text → Sized text (Ok (record { len = n; kind = kind }))
sized text kind n h k = record { within = (h, k) }

fault : (text : List ℕ) (f : LexFault) → Sized text (Err f)
fault text f = record { within = tt }

begins_len : (start text : List ℕ) → begins start text ≡ true → length start ≤ length text
begins_len start text e = omega (arith, simp length-append at (ap length (begins_is start text e)))

pub run_some : (p : ℕ → Bool) (text : List ℕ) → 0 < length text → p (get_or text 0 0) ≡ true → 0 < prefix_len p text
run_some p [] h e = h
run_some p (b ∷ rest) h e = rw e (omega arith)

option_within : (m n : ℕ) (found : Option ℕ) → IfSome found (λ k. k ≤ m) → m + 1 ≤ n → IfSome (option_map (λ k. k + 1) found) (λ k. k ≤ n)
option_within m n None h k = tt
option_within m n (Some i) h k = omega arith

through_within : (close text : List ℕ) → IfSome (through close text) (λ n. n ≤ length text)
through_within close [] = tt
through_within close (b ∷ rest) =
    chosen (λ found. IfSome found (λ n. n ≤ suc (length rest))) (begins close (b ∷ rest)) _ _ (λ e. begins_len close (b ∷ rest) e) (option_within (length rest) _ (through close rest) (through_within close rest) (omega arith))

gap_or_sized : (fault : LexFault) (text : List ℕ) (found : Option ℕ) → 2 ≤ length text → IfSome found (λ n. n ≤ length (drop 2 text)) → Sized text (gap_or fault found)
gap_or_sized fault text None h k = record { within = tt }
gap_or_sized fault text (Some n) h k = record { within = (omega arith, omega (arith, length-drop {A = ℕ})) }

gap_to_sized : (close : List ℕ) (fault : LexFault) (text : List ℕ) → 2 ≤ length text → Sized text (gap_to close fault text)
gap_to_sized close fault text h = gap_or_sized fault text (through close (drop 2 text)) h (through_within close (drop 2 text))

base_at : (text : List ℕ) → is_base (get_or text 1 0) ≡ true → 2 ≤ length text
base_at [] e = absurd (false≢true e)
base_at (q ∷ []) e = absurd (false≢true e)
base_at (q ∷ b ∷ rest) e = omega arith

base_within : (text : List ℕ) → base_len text ≤ length text
base_within text =
    chosen (λ n. n ≤ length text) ((get_or text 0 0 == 39) && is_base (get_or text 1 0)) (2 + prefix_len is_number_byte (drop 2 text)) 0 (λ e. let two : 2 ≤ length text = base_at text (and_parts (get_or text 0 0 == 39) (is_base (get_or text 1 0)) e).1 in omega (arith, length-drop {A = ℕ}, prefix_len-le-length is_number_byte (drop 2 text))) (omega arith)

number_sized : (text : List ℕ) → 0 < length text → is_ascii_digit (get_or text 0 0) ≡ true → Sized text (Ok (token_of Number (number_len text)))
number_sized text h e =
    let some : 0 < prefix_len is_ascii_digit text = run_some is_ascii_digit text h e in
    let base : base_len (drop (prefix_len is_ascii_digit text) text) ≤ length (drop (prefix_len is_ascii_digit text) text) = base_within (drop (prefix_len is_ascii_digit text) text) in
    sized text _ _ (omega arith) (omega (arith, length-drop {A = ℕ}, prefix_len-le-length is_ascii_digit text))

escaped_sized : (place : ℕ) (text : List ℕ) → 0 < length text → Sized text (escape_at place text)
escaped_sized place text h =
    chosen (Sized text) (prefix_len is_shown (drop 1 text) == 0) _ _ (λ _. fault text (BadByte place))
    (sized text (Some Escaped) (1 + prefix_len is_shown (drop 1 text)) (omega arith) (omega (arith, length-drop {A = ℕ}, prefix_len-le-length is_shown (drop 1 text))))

one : (text : List ℕ) (kind : Option TokenKind) → 0 < length text → Sized text (Ok (record { len = 1; kind = kind }))
one text kind h = sized text kind 1 (omega arith) h

-- a run that begins with the first byte
run : (p : ℕ → Bool) (text : List ℕ) (kind : Option TokenKind) → 0 < length text → p (get_or text 0 0) ≡ true → Sized text (Ok (record { len = prefix_len p text; kind = kind }))
run p text kind h e = sized text kind (prefix_len p text) (run_some p text h e) (prefix_len-le-length p text)

word_start : (b : ℕ) → is_word_start b ≡ true → is_word_byte b ≡ true
word_start b e = grind (arith, nat_tests)

-- either of two starts of two bytes
pair : (start other text : List ℕ) → length start ≡ 2 → length other ≡ 2 → (begins start text || begins other text) ≡ true → Sized text (Ok (token_of Symbol 2))
pair start other text h k e =
    let two : 2 ≤ length text = ⊎_elim (λ w. let l = begins_len start text w in omega (arith, l)) (λ w. let l = begins_len other text w in omega (arith, l)) (or_cases _ _ e) in
    sized text (Some Symbol) 2 (omega arith) two

pub front_sized : (place : ℕ) (text : List ℕ) → 0 < length text → Sized text (front place text)
unfolding front
front_sized place text h =
    chosen (Sized text) (is_ascii_whitespace (get_or text 0 0)) _ _ (λ e. one text None h)
    (chosen (Sized text) (begins (codes "//") text) _ _ (λ e. run (λ b. not (b == 10)) text None h (ap (λ b. not (b == 10)) (begins_first 47 (codes "/") text e)))
    (chosen (Sized text) (begins (codes "/*") text) _ _ (λ e. gap_to_sized (codes "*/") _ text (begins_len (codes "/*") text e))
    (chosen (Sized text) (begins (codes "(*)") text) _ _ (λ e. one text (Some Symbol) h)
    (chosen (Sized text) (begins (codes "(*") text) _ _ (λ e. gap_to_sized (codes "*)") _ text (begins_len (codes "(*") text e))
    (chosen (Sized text) (is_word_start (get_or text 0 0)) _ _ (λ e. run is_word_byte text (Some Word) h (word_start (get_or text 0 0) e))
    (chosen (Sized text) (get_or text 0 0 == 92) _ _ (λ e. escaped_sized place text h)
    (chosen (Sized text) (is_ascii_digit (get_or text 0 0)) _ _ (λ e. number_sized text h e)
    (chosen (Sized text) (begins (codes "~^") text || begins (codes "^~") text) _ _ (λ e. pair (codes "~^") (codes "^~") text refl refl e)
    (chosen (Sized text) (is_symbol (get_or text 0 0)) _ _ (λ e. one text (Some Symbol) h)
    (fault text (BadByte place)))))))))))

-- nothing is taken of no text
nothing_taken : (place : ℕ) → front place [] ≡ Err (BadByte place)
unfolding front is_symbol
nothing_taken place = refl

pub lexeme_taken : (place : ℕ) (text : List ℕ) (p : Lexeme) → front place text ≡ Ok p → (0 < p.len) × (p.len ≤ length text)
lexeme_taken place [] p e = let n : front place [] ≡ Err (BadByte place) = nothing_taken place in absurd (cc)
lexeme_taken place (b ∷ rest) p e = (subst (Sized (b ∷ rest)) e (front_sized place (b ∷ rest) (omega arith))).within
