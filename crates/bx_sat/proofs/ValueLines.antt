-- The lines of a solution: none is longer than 78 bytes.
use Rattle.std.proofs.Common.{◌≡◌, ℕ, suc, ◌+◌, ◌^◌, ◌<◌, ◌≤◌, ◌==◌, Bool, true, false, cond, not, ◌&&◌, List, [], ◌∷◌, ◌++◌, length, decimal, ap, ◌∙◌, subst, arith, length-append, refl, ltb-true, eqb-true, zero}
use Rattle.std.specs.Prelude.{All, ⊤}
use Rattle.std.specs.Char.{is_ascii_digit}
use Rattle.std.specs.List.{list_all, onto_first}
use Rattle.std.proofs.lemmas.Bool.{and_parts}
use Rattle.std.proofs.lemmas.Fmt.{digits_decimal, length-decimal-le}
use Rattle.std.proofs.lemmas.List.Folds.{list_all-append}
use Rattle.bx_dimacs.proofs.Digits.{model}
use Rattle.bx_dimacs.specs.Words.{lines_of}
use Rattle.bx_sat.specs.Sayings.{sign_text, start_text, value_word, has_room, word_behind, column_behind, values_text, solution_text}

abbrev IsShort : List ℕ → Type 0
IsShort line = length line ≤ 78

-- the first line has room behind so many bytes, and the others are short
abbrev AreShort : ℕ → List (List ℕ) → Type 0
AreShort column [] = ⊤
AreShort column (l ∷ ls) = (column + length l ≤ 78) × All IsShort ls

all_short : (lines : List (List ℕ)) → AreShort 0 lines → All IsShort lines
all_short [] h k d lt = absurd (omega (arith, lt))
all_short (l ∷ ls) h zero d lt = let le = h.0 in omega (arith, le)
all_short (l ∷ ls) h (suc k) d lt = h.1 k d (omega (arith, lt))

-- a byte more in front of a line
onto_short : (column b : ℕ) (lines : List (List ℕ)) → column + 1 ≤ 78 → AreShort (column + 1) lines → AreShort column (onto_first b lines)
onto_short column b [] room h = (omega (arith, room), λ k d lt. absurd (omega (arith, lt)))
onto_short column b (l ∷ ls) room h = (let le = h.0 in omega (arith, le), h.1)

-- words on a line: no byte is a line feed
abbrev no_feed : ℕ → Bool
no_feed b = not (b == 10)

word_short : (column : ℕ) (word rest : List ℕ) → list_all no_feed word ≡ true → column + length word ≤ 78 → AreShort (column + length word) (lines_of rest) → AreShort column (lines_of (word ++ rest))
word_short column [] rest plain room h = subst (λ n. AreShort n (lines_of rest)) (let zero : column + 0 ≡ column = omega arith in zero) h
word_short column (b ∷ bs) rest plain room h =
    let parts = and_parts (no_feed b) (list_all no_feed bs) plain in
    let same : column + length (b ∷ bs) ≡ column + 1 + length bs = omega arith in
    let behind : AreShort (column + 1) (lines_of (bs ++ rest)) = word_short (column + 1) bs rest parts.1 (omega (arith, room)) (subst (λ n. AreShort n (lines_of rest)) same h) in
    at (b == 10) parts.0 (onto_short column b (lines_of (bs ++ rest)) (omega (arith, room)) behind) where
      at : (t : Bool) → not t ≡ true → AreShort column (onto_first b (lines_of (bs ++ rest))) → AreShort column (cond t ([] ∷ lines_of (bs ++ rest)) (onto_first b (lines_of (bs ++ rest))))
      at true never h = let clash : false ≡ true = never in absurd (cc)
      at false is h = h

-- the word of a value: 12 bytes at most
digits_plain : (bytes : List ℕ) → list_all is_ascii_digit bytes ≡ true → list_all no_feed bytes ≡ true
digits_plain [] digits = refl
digits_plain (b ∷ bs) digits =
    let parts = and_parts (is_ascii_digit b) (list_all is_ascii_digit bs) digits in
    ap (λ t. t && list_all no_feed bs) (plain (b == 10) refl parts.0) ∙ digits_plain bs parts.1 where
      plain : (t : Bool) → (b == 10) ≡ t → is_ascii_digit b ≡ true → not (b == 10) ≡ true
      plain false e digit = ap not e
      plain true e digit =
          let ten : b ≡ 10 = eqb-true b 10 e in
          let clash : false ≡ true = subst (λ n. is_ascii_digit n ≡ true) ten digit in
          absurd (cc)

value_plain : (var : ℕ) (value : Bool) → var < 2 ^ 64 → list_all no_feed (value_word var value) ≡ true
value_plain var value small =
    list_all-append no_feed (sign_text value) (decimal var)
    ∙ ap (λ t. t && list_all no_feed (decimal var)) (sign_plain value)
    ∙ digits_plain (decimal var) (digits_decimal model var small) where
      sign_plain : (t : Bool) → list_all no_feed (sign_text t) ≡ true
      sign_plain true = refl
      sign_plain false = refl

value_length : (var : ℕ) (value : Bool) → var < 2 ^ 31 → length (value_word var value) ≤ 12
value_length var value small =
    let digits = length-decimal-le 10 var (omega arith) (omega (arith, small)) (omega (arith, small)) in
    let whole = length-append (sign_text value) (decimal var) in
    at value (length (decimal var)) digits whole where
      at : (t : Bool) (n : ℕ) → n ≤ 10 → length (value_word var value) ≡ length (sign_text t) + n → length (value_word var value) ≤ 12
      at true n le e = omega (arith, le, e)
      at false n le e = omega (arith, le, e)

-- a word behind others, or on the next line
placed_short : (column : ℕ) (word rest : List ℕ) → column ≤ 78 → list_all no_feed word ≡ true → length word ≤ 12
    → AreShort (column_behind column word) (lines_of rest) → AreShort column (lines_of (word_behind column word ++ rest))
placed_short column word rest room plain size h = at (has_room column word) refl h where
  at : (t : Bool) → has_room column word ≡ t → AreShort (cond t (column + length word) (1 + length word)) (lines_of rest) → AreShort column (lines_of ((start_text t ++ word) ++ rest))
  at true fits h = word_short column word rest plain (let lt = ltb-true (column + length word) 79 fits in omega (arith, lt)) h
  at false none h = let one : 1 + length word ≡ 0 + length (118 ∷ word) = omega arith in (omega (arith, room), all_short (lines_of (118 ∷ (word ++ rest))) (word_short 0 (118 ∷ word) rest plain (omega (arith, size)) (subst (λ n. AreShort n (lines_of rest)) one h)))

room_behind : (column : ℕ) (word : List ℕ) → length word ≤ 12 → column_behind column word ≤ 78
room_behind column word size = at (has_room column word) refl where
  at : (t : Bool) → has_room column word ≡ t → cond t (column + length word) (1 + length word) ≤ 78
  at true fits = let lt = ltb-true (column + length word) 79 fits in omega (arith, lt)
  at false none = omega (arith, size)

values_short : (values : List Bool) (column var : ℕ) → column ≤ 78 → var + length values ≤ 2 ^ 31 → AreShort column (lines_of (values_text column var values))
values_short [] column var room few =
    let size = value_length 0 true (omega arith) in
    let behind = room_behind column (value_word 0 true) size in
    placed_short column (value_word 0 true) (10 ∷ []) room (value_plain 0 true (omega arith)) size (omega (arith, behind), λ k d lt. absurd (omega (arith, lt)))
values_short (value ∷ values) column var room few =
    let small : var < 2 ^ 31 = omega (arith, few) in
    let size = value_length var value small in
    let behind = room_behind column (value_word var value) size in
    placed_short column (value_word var value) (values_text (column_behind column (value_word var value)) (var + 1) values) room (value_plain var value (omega (arith, small))) size
    (values_short values (column_behind column (value_word var value)) (var + 1) behind (omega (arith, few)))

pub solution_short : (values : List Bool) → length values < 2 ^ 31 → All IsShort (lines_of (solution_text values))
solution_short values few =
    all_short (lines_of (solution_text values))
    (omega arith, all_short (lines_of (118 ∷ values_text 1 1 values)) (word_short 0 (118 ∷ []) (values_text 1 1 values) refl (omega arith) (values_short values 1 1 (omega arith) (omega (arith, few)))))
