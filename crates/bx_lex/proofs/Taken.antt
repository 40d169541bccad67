-- What is of a kind is what the first rule that fits takes.
use Rattle.std.proofs.Common.{cond, not, true, false, [], ◌∷◌, ◌++◌, ◌≡◌, ℕ, ◌+◌, ◌-◌, ◌<◌, Bool, List, length, drop, get_or, Option, Some, None, Ok, Err, refl, sym, ap, ◌∙◌, subst, arith, codes, ◌==◌, ◌||◌, ◌&&◌, inl, inr, ⊎_elim}
use Rattle.std.specs.Prelude.{◌≢◌}
use Rattle.std.specs.List.{prefix_len, list_any}
use Rattle.std.specs.Char.{is_ascii_digit, is_ascii_whitespace}
use Rattle.std.proofs.lemmas.Bool.{and_from, and_parts, both_ways, cases_Bool, cases_order, cond-true, cond-false, eq-eqb, false_from_ne_true, ne_eqb, not_from_false, or_from, or_parts, eqb-true}
use Rattle.std.proofs.lemmas.Bool.Decides.{nat_tests}
use Rattle.bx_lex.specs.declared.token.TokenKind.TheVariants.{Word, Escaped, Number, Symbol}
use Rattle.bx_lex.specs.declared.token.LexFault.{LexFault}
use Rattle.bx_lex.specs.declared.token.LexFault.TheVariants.{BadByte, OpenComment, OpenAttribute, NoMemory}
use Rattle.bx_lex.specs.declared.token.TokenKind.{TokenKind}
use Rattle.bx_lex.specs.declared.rules.Lexeme.{Lexeme}
use Rattle.bx_lex.specs.Bytes.{is_word_start, is_word_byte, is_shown, is_base, is_number_byte, is_symbol}
use Rattle.bx_lex.specs.Rules.{begins, line_len, gap, token_of, gap_or, gap_to, base_len, number_len, escape_at, front, IsFirstClose}
use Rattle.bx_lex.specs.Kinds.{IsLongestRun, IsBase, IsNumber, is_pair, IsTokenOf, IsGap, IsOfKind, IsBad, IsFaultAt}
use Rattle.bx_lex.proofs.Begins.{begins_is, begins_other}
use Rattle.bx_lex.proofs.Closes.{through_is}
use Rattle.bx_lex.proofs.ByKind.{run_is}

-- choices, one test after the other

pass : {X : Type 0} (b : Bool) (x y z : X) → b ≡ false → y ≡ z → cond b x y ≡ z
pass b x y z e h = cond-false b x y e ∙ h

-- a longest run has one length

run_once : (test : ℕ → Bool) (text : List ℕ) (n m : ℕ) → IsLongestRun test text n → IsLongestRun test text m → n ≡ m
run_once test text n m h k =
    ⊎_elim (λ same. same)
    (⊎_elim
    (λ less. absurd (let m_in = k.inside in both_ways (test (get_or text n 0)) (h.behind (omega arith)) (k.pass n less)))
    (λ more. absurd (let n_in = h.inside in both_ways (test (get_or text m 0)) (k.behind (omega arith)) (h.pass m more))))
    (cases_order n m)

run_len : (test : ℕ → Bool) (text : List ℕ) (n : ℕ) → IsLongestRun test text n → prefix_len test text ≡ n
run_len test text n h = run_once test text (prefix_len test text) n (run_is test text) h

-- what a byte of one class is not

-- a byte that is one of these fails a test that each of these fails
none_of : (test : ℕ → Bool) (bs : List ℕ) (b : ℕ) → list_any (λ c. c == b) bs ≡ true → list_any test bs ≡ false → test b ≡ false
none_of test [] b e h = absurd (both_ways false refl e)
none_of test (c ∷ bs) b e h =
    let tests = or_parts (test c) (list_any test bs) h in
    ⊎_elim
    (λ same. ap test (sym (eqb-true c b same)) ∙ tests.0)
    (λ others. none_of test bs b (sym (ap (λ x. x || list_any (λ c. c == b) bs) others) ∙ e) tests.1)
    (cases_Bool (c == b))

-- a test that a symbol fails
symbol_fails : (test : ℕ → Bool) (b : ℕ) → is_symbol b ≡ true → list_any test (codes "(),;=~&^|[]{}#@?:.+-*/%<>!'\"$`") ≡ false → test b ≡ false
unfolding is_symbol
symbol_fails test b e h = none_of test (codes "(),;=~&^|[]{}#@?:.+-*/%<>!'\"$`") b e h

word_is_no_space : (b : ℕ) → is_word_start b ≡ true → is_ascii_whitespace b ≡ false
word_is_no_space b e = grind (arith, nat_tests)

digit_is_no_space : (b : ℕ) → is_ascii_digit b ≡ true → is_ascii_whitespace b ≡ false
digit_is_no_space b e = grind (arith, nat_tests)

digit_is_no_word : (b : ℕ) → is_ascii_digit b ≡ true → is_word_start b ≡ false
digit_is_no_word b e = grind (arith, nat_tests)

digit_is_no_escape : (b : ℕ) → is_ascii_digit b ≡ true → (b == 92) ≡ false
digit_is_no_escape b e = grind (arith, nat_tests)

-- a text that begins with a byte that isn't 0

begins_with : (b : ℕ) (text : List ℕ) → b ≢ 0 → get_or text 0 0 ≡ b → text ≡ b ∷ drop 1 text
begins_with b [] some e = absurd (some (sym e))
begins_with b (c ∷ text) some e = ap (λ x. x ∷ text) e

-- the front of each text

-- a text whose first byte passes a test that none of the bytes of pairs passes
record NoPair (text : List ℕ) : Type 0 where
  pub line : begins (codes "//") text ≡ false
  pub comment : begins (codes "/*") text ≡ false
  pub three : begins (codes "(*)") text ≡ false
  pub attribute : begins (codes "(*") text ≡ false
  pub pair : (begins (codes "~^") text || begins (codes "^~") text) ≡ false

no_pair : (test : ℕ → Bool) (text : List ℕ) → test 47 ≡ false → test 40 ≡ false → test 126 ≡ false → test 94 ≡ false → test (get_or text 0 0) ≡ true → NoPair text
no_pair test text slash bracket tilde caret e = record {
  line = begins_other test 47 (codes "/") text slash e;
  comment = begins_other test 47 (codes "*") text slash e;
  three = begins_other test 40 (codes "*)") text bracket e;
  attribute = begins_other test 40 (codes "*") text bracket e;
  pair = or_from _ _ (begins_other test 126 (codes "^") text tilde e) (begins_other test 94 (codes "~") text caret e);
}

white_front : (place : ℕ) (text : List ℕ) → is_ascii_whitespace (get_or text 0 0) ≡ true → front place text ≡ Ok (gap 1)
unfolding front
white_front place text e = cond-true _ _ _ e

line_front : (place : ℕ) (rest : List ℕ) → front place (47 ∷ 47 ∷ rest) ≡ Ok (gap (line_len (47 ∷ 47 ∷ rest)))
unfolding front
line_front place rest = refl

comment_front : (place : ℕ) (rest : List ℕ) → front place (47 ∷ 42 ∷ rest) ≡ gap_to (codes "*/") (OpenComment place) (47 ∷ 42 ∷ rest)
unfolding front
comment_front place rest = refl

three_front : (place : ℕ) (rest : List ℕ) → front place (40 ∷ 42 ∷ 41 ∷ rest) ≡ Ok (token_of Symbol 1)
unfolding front
three_front place rest = refl

attribute_front : (place : ℕ) (rest : List ℕ) → begins (codes "(*)") (40 ∷ 42 ∷ rest) ≡ false → front place (40 ∷ 42 ∷ rest) ≡ gap_to (codes "*)") (OpenAttribute place) (40 ∷ 42 ∷ rest)
unfolding front
attribute_front place rest e = cond-false _ _ _ e

escape_front : (place : ℕ) (rest : List ℕ) → front place (92 ∷ rest) ≡ escape_at place (92 ∷ rest)
unfolding front
escape_front place rest = refl

tilde_front : (place : ℕ) (rest : List ℕ) → front place (126 ∷ 94 ∷ rest) ≡ Ok (token_of Symbol 2)
unfolding front
tilde_front place rest = refl

caret_front : (place : ℕ) (rest : List ℕ) → front place (94 ∷ 126 ∷ rest) ≡ Ok (token_of Symbol 2)
unfolding front
caret_front place rest = refl

word_front : (place : ℕ) (text : List ℕ) → is_word_start (get_or text 0 0) ≡ true → front place text ≡ Ok (token_of Word (prefix_len is_word_byte text))
unfolding front
word_front place text e =
    let others = no_pair is_word_start text refl refl refl refl e in
    pass _ _ _ _ (word_is_no_space (get_or text 0 0) e) (pass _ _ _ _ others.line (pass _ _ _ _ others.comment (pass _ _ _ _ others.three (pass _ _ _ _ others.attribute (cond-true _ _ _ e)))))

number_front : (place : ℕ) (text : List ℕ) → is_ascii_digit (get_or text 0 0) ≡ true → front place text ≡ Ok (token_of Number (number_len text))
unfolding front
number_front place text e =
    let b = get_or text 0 0 in
    let others = no_pair is_ascii_digit text refl refl refl refl e in
    pass _ _ _ _ (digit_is_no_space b e) (pass _ _ _ _ others.line (pass _ _ _ _ others.comment (pass _ _ _ _ others.three (pass _ _ _ _ others.attribute
    (pass _ _ _ _ (digit_is_no_word b e) (pass _ _ _ _ (digit_is_no_escape b e) (cond-true _ _ _ e)))))))

symbol_front : (place : ℕ) (text : List ℕ) → begins (codes "(*)") text ≡ false → is_symbol (get_or text 0 0) ≡ true → is_pair text ≡ false → front place text ≡ Ok (token_of Symbol 1)
unfolding front
symbol_front place text three e alone =
    let b = get_or text 0 0 in
    let line = or_parts _ _ alone in
    let comment = or_parts _ _ line.1 in
    let attribute = or_parts _ _ comment.1 in
    let closed : begins (codes "(*") text ≡ false = opens_nothing (begins (codes "(*") text) (begins (codes "(*)") text) three attribute.0 in
    pass _ _ _ _ (symbol_fails is_ascii_whitespace b e refl) (pass _ _ _ _ line.0 (pass _ _ _ _ comment.0 (pass _ _ _ _ three (pass _ _ _ _ closed
    (pass _ _ _ _ (symbol_fails is_word_start b e refl) (pass _ _ _ _ (symbol_fails (λ c. c == 92) b e refl) (pass _ _ _ _ (symbol_fails is_ascii_digit b e refl)
    (pass _ _ _ _ attribute.1 (cond-true _ _ _ e)))))))))
  where
    opens_nothing : (opens three : Bool) → three ≡ false → (opens && not three) ≡ false → opens ≡ false
    opens_nothing false three h k = refl
    opens_nothing true three h k = absurd (both_ways (not three) k (not_from_false three h))

other_front : (place : ℕ) (text : List ℕ) → get_or text 0 0 ≢ 92 → is_ascii_whitespace (get_or text 0 0) ≡ false → is_word_start (get_or text 0 0) ≡ false → is_ascii_digit (get_or text 0 0) ≡ false → is_symbol (get_or text 0 0) ≡ false →
    front place text ≡ Err (BadByte place)
unfolding front is_symbol
other_front place text escape white word digit symbol =
    let others = no_pair (λ b. not (is_symbol b)) text refl refl refl refl (not_from_false _ symbol) in
    pass _ _ _ _ white (pass _ _ _ _ others.line (pass _ _ _ _ others.comment (pass _ _ _ _ others.three (pass _ _ _ _ others.attribute
    (pass _ _ _ _ word (pass _ _ _ _ (ne_eqb _ 92 escape) (pass _ _ _ _ digit (pass _ _ _ _ others.pair (cond-false _ _ _ symbol)))))))))

-- what is of a kind is taken

-- along what a text begins with
at_begin : (P : List ℕ → Type 0) (start text : List ℕ) → begins start text ≡ true → P (start ++ drop (length start) text) → P text
at_begin P start text e h = subst P (sym (begins_is start text e)) h

comment_taken : (place : ℕ) (text : List ℕ) (found : Option ℕ) → begins (codes "/*") text ≡ true → IsFirstClose (codes "*/") (drop 2 text) found → front place text ≡ gap_or (OpenComment place) found
comment_taken place text found e h =
    at_begin (λ t. front place t ≡ gap_to (codes "*/") (OpenComment place) t) (codes "/*") text e (comment_front place (drop 2 text))
    ∙ ap (gap_or (OpenComment place)) (through_is (codes "*/") (drop 2 text) found (omega arith) h)

attribute_taken : (place : ℕ) (text : List ℕ) (found : Option ℕ) → begins (codes "(*)") text ≡ false → begins (codes "(*") text ≡ true → IsFirstClose (codes "*)") (drop 2 text) found → front place text ≡ gap_or (OpenAttribute place) found
attribute_taken place text found three e h =
    at_begin (λ t. begins (codes "(*)") t ≡ false → front place t ≡ gap_to (codes "*)") (OpenAttribute place) t) (codes "(*") text e (attribute_front place (drop 2 text)) three
    ∙ ap (gap_or (OpenAttribute place)) (through_is (codes "*)") (drop 2 text) found (omega arith) h)

gap_taken : (place : ℕ) (text : List ℕ) (n : ℕ) → IsGap text n → front place text ≡ Ok (gap n)
gap_taken place text n (inl (one, e)) = white_front place text e ∙ ap (λ m. Ok (gap m)) (sym one)
gap_taken place text n (inr (inl (e, run))) =
    at_begin (λ t. front place t ≡ Ok (gap (line_len t))) (codes "//") text e (line_front place (drop 2 text)) ∙ ap (λ m. Ok (gap m)) (run_len (λ b. not (b == 10)) text n run)
gap_taken place text n (inr (inr (inl (e, (m, same, h))))) = comment_taken place text (Some m) e h ∙ ap (λ m. Ok (gap m)) (sym same)
gap_taken place text n (inr (inr (inr (three, (e, (m, same, h)))))) = attribute_taken place text (Some m) three e h ∙ ap (λ m. Ok (gap m)) (sym same)

escape_taken : (place : ℕ) (text : List ℕ) → get_or text 0 0 ≡ 92 → front place text ≡ escape_at place text
escape_taken place text e =
    let whole : text ≡ 92 ∷ drop 1 text = begins_with 92 text (omega arith) e in
    subst (λ t. front place t ≡ escape_at place t) (sym whole) (escape_front place (drop 1 text))

escaped_some : (place : ℕ) (text : List ℕ) (n : ℕ) → 1 < n → IsLongestRun is_shown (drop 1 text) (n - 1) → escape_at place text ≡ Ok (token_of Escaped n)
escaped_some place text n some run =
    let len : prefix_len is_shown (drop 1 text) ≡ n - 1 = run_len is_shown (drop 1 text) (n - 1) run in
    let same : 1 + prefix_len is_shown (drop 1 text) ≡ n = omega arith in
    pass _ _ _ _ (ne_eqb (prefix_len is_shown (drop 1 text)) 0 (λ (none : prefix_len is_shown (drop 1 text) ≡ 0). absurd (omega (arith, none, len)))) (ap (λ m. Ok (token_of Escaped m)) same)

none_shown : (test : ℕ → Bool) (text : List ℕ) → test (get_or text 0 0) ≡ false → prefix_len test text ≡ 0
none_shown test [] e = refl
none_shown test (b ∷ text) e = rw e refl

escaped_none : (place : ℕ) (text : List ℕ) → is_shown (get_or (drop 1 text) 0 0) ≡ false → escape_at place text ≡ Err (BadByte place)
escaped_none place text e = rw (none_shown is_shown (drop 1 text) e) refl

symbol_taken : (place : ℕ) (text : List ℕ) → is_symbol (get_or text 0 0) ≡ true → is_pair text ≡ false → front place text ≡ Ok (token_of Symbol 1)
symbol_taken place text e alone =
    ⊎_elim
    (λ three. at_begin (λ t. front place t ≡ Ok (token_of Symbol 1)) (codes "(*)") text three (three_front place (drop 3 text)))
    (λ others. symbol_front place text others e alone)
    (cases_Bool (begins (codes "(*)") text))

base_len_is : (text : List ℕ) (n : ℕ) → IsBase text n → base_len text ≡ n
base_len_is text n (inl (starts, (m, same, run))) =
    cond-true ((get_or text 0 0 == 39) && is_base (get_or text 1 0)) _ _ (and_from _ _ (eq-eqb _ 39 starts.0) starts.1) ∙ ap (λ k. 2 + k) (run_len is_number_byte (drop 2 text) m run) ∙ sym same
base_len_is text n (inr (none, unstarted)) =
    let quote : Bool = get_or text 0 0 == 39 in
    let letter : Bool = is_base (get_or text 1 0) in
    cond-false (quote && letter) _ _ (false_from_ne_true (quote && letter) (λ e. let both = and_parts quote letter e in unstarted (eqb-true _ 39 both.0, both.1))) ∙ sym none

number_len_is : (text : List ℕ) (n : ℕ) → IsNumber text n → number_len text ≡ n
number_len_is text n h =
    ap (λ d. d + base_len (drop d text)) (run_len is_ascii_digit text h.size h.digits) ∙ ap (λ k. h.size + k) (base_len_is (drop h.size text) h.base h.behind) ∙ sym h.whole

token_taken : (place : ℕ) (text : List ℕ) (kind : TokenKind) (n : ℕ) → IsTokenOf kind text n → front place text ≡ Ok (token_of kind n)
token_taken place text Word n h = word_front place text h.0 ∙ ap (λ m. Ok (token_of Word m)) (run_len is_word_byte text n h.1)
token_taken place text Escaped n h = escape_taken place text h.0 ∙ escaped_some place text n h.1 h.2
token_taken place text Number n h = number_front place text (h.digits.pass 0 h.some) ∙ ap (λ m. Ok (token_of Number m)) (number_len_is text n h)
token_taken place text Symbol n (inl (one, e, alone)) = symbol_taken place text e alone ∙ ap (λ m. Ok (token_of Symbol m)) (sym one)
token_taken place text Symbol n (inr (two, inl e)) =
    at_begin (λ t. front place t ≡ Ok (token_of Symbol 2)) (codes "~^") text e (tilde_front place (drop 2 text)) ∙ ap (λ m. Ok (token_of Symbol m)) (sym two)
token_taken place text Symbol n (inr (two, inr e)) =
    at_begin (λ t. front place t ≡ Ok (token_of Symbol 2)) (codes "^~") text e (caret_front place (drop 2 text)) ∙ ap (λ m. Ok (token_of Symbol m)) (sym two)

lexeme_of_kind : (place : ℕ) (text : List ℕ) (kind : Option TokenKind) (n : ℕ) → IsOfKind kind text n → front place text ≡ Ok (record { len = n; kind = kind })
lexeme_of_kind place text None n h = gap_taken place text n h
lexeme_of_kind place text (Some kind) n h = token_taken place text kind n h

pub kind_taken : (place : ℕ) (text : List ℕ) (p : Lexeme) → IsOfKind p.kind text p.len → front place text ≡ Ok p
kind_taken place text p h = lexeme_of_kind place text p.kind p.len h

bad_refused : (place : ℕ) (text : List ℕ) → IsBad text → front place text ≡ Err (BadByte place)
bad_refused place text (inl (e, none)) = escape_taken place text e ∙ escaped_none place text none
bad_refused place text (inr (escape, white, word, digit, symbol)) = other_front place text escape white word digit symbol

pub fault_refused : (place : ℕ) (text : List ℕ) (fault : LexFault) → IsFaultAt place text fault → front place text ≡ Err fault
fault_refused place text (BadByte at) h = bad_refused place text h.1 ∙ ap (λ (p : ℕ). Err (BadByte p)) (sym h.0)
fault_refused place text (OpenComment at) h = comment_taken place text None h.1.0 h.1.1 ∙ ap (λ (p : ℕ). Err (OpenComment p)) (sym h.0)
fault_refused place text (OpenAttribute at) h = attribute_taken place text None h.1 h.2.0 h.2.1 ∙ ap (λ (p : ℕ). Err (OpenAttribute p)) (sym h.0)
fault_refused place text NoMemory h = absurd h
