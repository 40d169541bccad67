-- The text of a log says the log.
use Rattle.std.proofs.Common.{◌≡◌, ◌≢◌, ℕ, zero, suc, ◌+◌, ◌-◌, ◌*◌, ◌^◌, ◌<◌, ◌≤◌, ◌&&◌, ◌||◌, ◌==◌, ◌↔◌, Bool, true, false, cond, not, List, [], ◌∷◌, ◌++◌, length, map, get_or, Option, Some, None, Ok, ℤ, pos, negsuc, neg_ℤ, nat_lt, nat_le, codes, decimal, refl, sym, ◌∙◌, ap, subst, inl, inr, arith, append_assoc, append-nil, lt-ltb, le-leb, leb-true, eqb-true, ne_eqb, rules, if◌then◌else◌}
use Rattle.std.specs.Prelude.{All, Contains, slice_get, bytes_eq, option_map, filter}
use Rattle.std.specs.Char.{is_ascii_digit, is_ascii_whitespace, digit_value}
use Rattle.std.specs.List.{list_any, list_all, slice_split, onto_first, flat_map}
use Rattle.std.specs.Str.Parse.{digits_value_after}
use Rattle.std.proofs.lemmas.Bool.{cases_lt, cases_Bool, and_parts}
use Rattle.std.proofs.lemmas.Fmt.{digits_decimal, digits_value-decimal, decimal_nonempty}
use Rattle.std.proofs.lemmas.List.{length_push, get_or_append_left, get_or_push}
use Rattle.std.proofs.lemmas.List.Splits.{slice_split_at}
use Rattle.std.proofs.lemmas.List.Sums.{AllPass-from_list_all, list_all-from_AllPass}
use Rattle.std.proofs.lemmas.Option.{slice_get_within, get_or_from_slice_get, slice_get-get_or}
use Rattle.std.proofs.lemmas.Slice.Eq.{bytes_eq-Decides}
use Rattle.bx_cnf.specs.Literals.{Literal, literal_of, literal_text, number_of as signed_number}
use Rattle.bx_cnf.specs.Formulas.{Formula, IsClause, AscendAbove}
use Rattle.bx_proof.specs.Accepted.{AreShaped}
use Rattle.bx_proof.specs.Steps.{Step, StepList, IsStep, AreSteps}
use Rattle.bx_proof.specs.Texts.{list_text, step_line, step_lines, log_text}
use Rattle.bx_proof.proofs.Closed.{closed_cons}
use Rattle.bx_proof.proofs.LogGrammar.{log_is_line_grammar}
use Rattle.bx_dimacs.specs.FormulaTexts.{is_tautology, behind_line}
use Rattle.bx_dimacs.specs.Keeping.{AreInOrder}
use Rattle.bx_dimacs.specs.Proofs.{IsOwnId, AreOwnIds, AreStepsKept}
use Rattle.bx_dimacs.specs.ProofTexts.{StepText, Numbers, LineText, adds, deletes, behind_numbers, numbers_from, numbers_of, with_hints, with_literals, behind_id, line_of, ProofText, ids_of, last_id, is_clause_over, names_clause, may_pass, with_line, is_over, read_steps, proof_of}
use Rattle.bx_dimacs.specs.Words.{Line, lines_of, lines_from, words_of, is_passed_over, begins_with, digits_behind, below, number_of, negative, signed_of}
use Rattle.bx_dimacs.proofs.Digits.{number_by, below_one, model}
use Rattle.bx_dimacs.proofs.Lists.{all_head, all_tail}
use Rattle.bx_dimacs.proofs.Ordering.{any_has, opposites, no_opposites}
use Rattle.bx_dimacs.proofs.Parting.{lines_next}
use Rattle.bx_dimacs.proofs.Stepping.{numbers_some, is_within, true_within, last_at, over_push, ids_push, step_next, lines_on}

-- the digits of a number
digit_step : (n b : ℕ) → is_ascii_digit b ≡ true → 10 * n + (b - 48) ≡ n * 10 + digit_value b
digit_step n b digit =
    let parts = and_parts (nat_le 48 b) (nat_le b 57) digit in
    let low = leb-true 48 b parts.0 in
    let high = leb-true b 57 parts.1 in
    let value : digit_value b ≡ b - 48 = search rules in
    omega (arith, value)

digits_are : (n : ℕ) (bytes : List ℕ) → list_all is_ascii_digit bytes ≡ true → digits_behind n bytes ≡ Some (digits_value_after 10 n bytes)
digits_are n [] digits = refl
digits_are n (b ∷ bs) digits =
    let parts = and_parts (is_ascii_digit b) (list_all is_ascii_digit bs) digits in
    ap (λ t. cond t (digits_behind (10 * n + (b - 48)) bs) None) parts.0
    ∙ digits_are (10 * n + (b - 48)) bs parts.1
    ∙ ap (λ m. let o : Option ℕ = Some (digits_value_after 10 m bs) in o) (digit_step n b parts.0)

number_is : (bits n : ℕ) → n < 2 ^ bits → n < 2 ^ 64 → number_of bits (decimal n) ≡ Some n
number_is bits n fits small =
    number_by bits (decimal n) (Some n) (decimal_nonempty n small)
    (ap (below (2 ^ bits)) (digits_are 0 (decimal n) (digits_decimal model n small) ∙ ap Some (digits_value-decimal model n small)) ∙ below_one (2 ^ bits) n fits)

signed_plain : (word : List ℕ) (n : ℕ) → list_all is_ascii_digit word ≡ true → 0 < length word → number_of 63 word ≡ Some n → signed_of word ≡ Some (pos n)
signed_plain [] n digits some is = absurd (omega (arith, some))
signed_plain (b ∷ bs) n digits some is =
    ap (λ t. cond t (negative (number_of 63 bs)) (option_map pos (number_of 63 (b ∷ bs)))) (at (b == 45) refl (and_parts (is_ascii_digit b) (list_all is_ascii_digit bs) digits).0)
    ∙ ap (option_map pos) is where
      at : (t : Bool) → (b == 45) ≡ t → is_ascii_digit b ≡ true → (b == 45) ≡ false
      at false e digit = e
      at true e digit = let clash : false ≡ true = subst (λ n. is_ascii_digit n ≡ true) (eqb-true b 45 e) digit in absurd (cc)

hint_word : (n : ℕ) → n < 2 ^ 32 → signed_of (decimal n) ≡ Some (pos n)
hint_word n small =
    let wide : n < 2 ^ 64 = omega (arith, small) in
    signed_plain (decimal n) n (digits_decimal model n wide) (decimal_nonempty n wide) (number_is 63 n (omega (arith, small)) wide)

literal_word : (var : ℕ) (p : Bool) → 0 < var → var < 2 ^ 31 → signed_of (if p then decimal var else 45 ∷ decimal var) ≡ Some (if p then pos var else neg_ℤ (pos var))
literal_word zero p up small = absurd (omega (arith, up))
literal_word (suc n) true up small = hint_word (suc n) (omega (arith, small))
literal_word (suc n) false up small = ap negative (number_is 63 (suc n) (omega (arith, small)) (omega (arith, small)))

literal_back : (var : ℕ) (p : Bool) → 0 < var → literal_of (if p then pos var else neg_ℤ (pos var)) ≡ record { var = var; positive = p }
literal_back zero p up = absurd (omega (arith, up))
literal_back (suc n) true up = refl
literal_back (suc n) false up = refl

literal_some : (var : ℕ) (p : Bool) → 0 < var → (if p then pos var else neg_ℤ (pos var)) ≢ pos 0
literal_some zero p up = absurd (omega (arith, up))
literal_some (suc n) true up = λ e. let clash : pos (suc n) ≡ pos zero = e in cc
literal_some (suc n) false up = λ e. let clash : negsuc n ≡ pos zero = e in cc

-- words that spell numbers, and the 0 behind them
pub record Spells {X : Type 0} (text : X → List ℕ) (value : X → ℤ) (x : X) : Type 0 where
  pub spelled : signed_of (text x) ≡ Some (value x)
  pub some : value x ≢ pos 0

numbers_read : {X : Type 0} (text : X → List ℕ) (value : X → ℤ) (xs : List X) (more : List (List ℕ)) → All (Spells text value) xs → numbers_of (map text xs ++ codes "0" ∷ more) ≡ Some (map value xs, more)
numbers_read text value [] more all = refl
numbers_read text value (x ∷ xs) more all =
    let here = all_head (Spells text value) x xs all in
    let rest : List (List ℕ) = map text xs ++ codes "0" ∷ more in
    ap (λ o. numbers_from o rest (numbers_of rest)) here.spelled
    ∙ numbers_some (value x) rest (numbers_of rest) here.some
    ∙ ap (behind_numbers (value x ∷ [])) (numbers_read text value xs more (all_tail (Spells text value) x xs all))

-- words of a line
pub record IsWord (word : List ℕ) : Type 0 where
  pub some : 0 < length word
  pub plain : All (λ b. is_ascii_whitespace b ≡ false) word

word_then : (word rest : List ℕ) → IsWord word → words_of (word ++ 32 ∷ rest) ≡ word ∷ words_of rest
word_then word rest is =
    let keeps : List (List ℕ) → List (List ℕ) = λ parts. filter (λ part. nat_lt 0 (length part)) parts in
    ap (λ parts. filter (λ part. nat_lt 0 (length part)) parts) (slice_split_at is_ascii_whitespace word 32 rest is.plain refl)
    ∙ ap (λ t. cond t (word ∷ words_of rest) (words_of rest)) (lt-ltb 0 (length word) is.some)

words_closed : {X : Type 0} (text : X → List ℕ) (xs : List X) (word r : List ℕ) → IsWord word → All (λ x. IsWord (text x)) xs → words_of (word ++ (list_text text xs ++ r)) ≡ word ∷ (map text xs ++ words_of (48 ∷ r))
words_closed text [] word r is all = word_then word (48 ∷ r) is
words_closed text (x ∷ xs) word r is all =
    ap (λ bs. words_of (word ++ bs)) (closed_cons text x xs r)
    ∙ word_then word (text x ++ (list_text text xs ++ r)) is
    ∙ ap (λ ws. word ∷ ws) (words_closed text xs (text x) r (all_head (λ y. IsWord (text y)) x xs all) (all_tail (λ y. IsWord (text y)) x xs all))

digit_plain : (b : ℕ) → is_ascii_digit b ≡ true → is_ascii_whitespace b ≡ false
digit_plain b digit =
    let parts = and_parts (nat_le 48 b) (nat_le b 57) digit in
    let low = leb-true 48 b parts.0 in
    search rules

digits_word : (word : List ℕ) → list_all is_ascii_digit word ≡ true → 0 < length word → IsWord word
digits_word word digits some = record { some = some; plain = λ k d lt. digit_plain (get_or word k d) (AllPass-from_list_all is_ascii_digit word digits k d lt) }

decimal_word : (n : ℕ) → n < 2 ^ 64 → IsWord (decimal n)
decimal_word n small = digits_word (decimal n) (digits_decimal model n small) (decimal_nonempty n small)

literal_is_word : (var : ℕ) (p : Bool) → var < 2 ^ 64 → IsWord (if p then decimal var else 45 ∷ decimal var)
literal_is_word var true small = decimal_word var small
literal_is_word var false small =
    let digits = decimal_word var small in
    record { some = omega arith; plain = minus digits.plain } where
      minus : All (λ b. is_ascii_whitespace b ≡ false) (decimal var) → All (λ b. is_ascii_whitespace b ≡ false) (45 ∷ decimal var)
      minus all zero d lt = refl
      minus all (suc k) d lt = all k d (omega (arith, lt))

-- the line of a step
abbrev pub said_of : ℕ → Step → StepText
said_of id step = record { id = id; literals = step.literals; hints = map pos step.hints }

literals_back : (literals : List Literal) → All (λ l. (0 < l.var) × (l.var < 2 ^ 31)) literals → map literal_of (map signed_number literals) ≡ literals
literals_back [] all = refl
literals_back (l ∷ ls) all =
    let here = all_head (λ (m : Literal). (0 < m.var) × (m.var < 2 ^ 31)) l ls all in
    ap (λ m. m ∷ map literal_of (map signed_number ls)) (literal_back l.var l.positive here.0)
    ∙ ap (λ ms. l ∷ ms) (literals_back ls (all_tail (λ (m : Literal). (0 < m.var) × (m.var < 2 ^ 31)) l ls all))

-- no literal is the word d
not_d : (literals : List Literal) (more : List (List ℕ)) → All (Spells literal_text signed_number) literals → begins_with (codes "d") (map literal_text literals ++ codes "0" ∷ more) ≡ false
not_d [] more all = refl
not_d (l ∷ ls) more all = elim (cases_Bool (bytes_eq (literal_text l) (codes "d"))) [
  | inr isnt ↦ isnt
  | inl is ↦
      let same = (bytes_eq-Decides (literal_text l) (codes "d")).0 is in
      let none : signed_of (literal_text l) ≡ None = ap signed_of same in
      let clash : None ≡ Some (signed_number l) = sym none ∙ (all_head (Spells literal_text signed_number) l ls all).spelled in
      absurd (cc)
]

above_low : (low : ℕ) (ls : List Literal) → AscendAbove low ls → All (λ l. 0 < l.var) ls
above_low low [] up k d lt = absurd (omega (arith, lt))
above_low low (l ∷ ls) up zero d lt = let h = up.0 in omega (arith, h)
above_low low (l ∷ ls) up (suc k) d lt = above_low l.var ls up.1 k d (omega (arith, lt))

in_range : (id : ℕ) (step : Step) → IsStep id step → All (λ l. (0 < l.var) × (l.var < 2 ^ 31)) step.literals
in_range id step is k d lt = (above_low 0 step.literals is.clause.ascending k d lt, let le = is.clause.within k d lt in omega (arith, le))

literals_spell : (id : ℕ) (step : Step) → IsStep id step → All (Spells literal_text signed_number) step.literals
literals_spell id step is k d lt =
    let l : Literal = get_or step.literals k d in
    let range = in_range id step is k d lt in
    record { spelled = literal_word l.var l.positive range.0 range.1; some = literal_some l.var l.positive range.0 }

hints_spell : (id : ℕ) (step : Step) → IsStep id step → All (Spells decimal pos) step.hints
hints_spell id step is k d lt =
    let h : ℕ = get_or step.hints k d in
    let before = is.before k d lt in
    let numbered = is.numbered in
    record { spelled = hint_word h (let b = before.1 in omega (arith, b, numbered)); some = λ e. let up = before.0 in let same : h ≡ 0 = let z : pos h ≡ pos 0 = e in cc in omega (arith, same, up) }

words_line : (id : ℕ) (step : Step) → IsStep id step → words_of (step_line id step) ≡ decimal id ∷ (map literal_text step.literals ++ codes "0" ∷ (map decimal step.hints ++ codes "0" ∷ []))
words_line id step is =
    let numbered = is.numbered in
    let front = words_closed literal_text step.literals (decimal id) (list_text decimal step.hints) (decimal_word id (omega (arith, numbered)))
    (λ k d lt. let range = in_range id step is k d lt in let l : Literal = get_or step.literals k d in let small = range.1 in literal_is_word l.var l.positive (omega (arith, small)))
    in
    let zero_word : IsWord (codes "0") = digits_word (codes "0") refl (omega arith) in
    let back = words_closed decimal step.hints (codes "0") [] zero_word (λ k d lt. let before = is.before k d lt in let b = before.1 in decimal_word (get_or step.hints k d) (omega (arith, b, numbered))) in
    ap words_of (append_assoc (decimal id) (list_text literal_text step.literals) (list_text decimal step.hints))
    ∙ front
    ∙ ap (λ ws. decimal id ∷ (map literal_text step.literals ++ ws))
    (ap (λ bs. words_of (48 ∷ bs)) (sym (append-nil (list_text decimal step.hints))) ∙ back)

line_says : (id : ℕ) (step : Step) → IsStep id step → line_of (words_of (step_line id step)) ≡ adds (said_of id step)
line_says id step is =
    let numbered = is.numbered in
    let hint_words : List (List ℕ) = map decimal step.hints ++ codes "0" ∷ [] in
    let words : List (List ℕ) = map literal_text step.literals ++ codes "0" ∷ hint_words in
    let literals = literals_spell id step is in
    ap line_of (words_line id step is)
    ∙ ap (λ o. behind_id o words) (number_is 64 id (omega (arith, numbered)) (omega (arith, numbered)))
    ∙ ap (λ t. cond t deletes (with_literals id (numbers_of words))) (not_d step.literals hint_words literals)
    ∙ ap (with_literals id) (numbers_read literal_text signed_number step.literals hint_words literals)
    ∙ ap (with_hints id (map signed_number step.literals)) (numbers_read decimal pos step.hints [] (hints_spell id step is))
    ∙ ap (λ ls. adds (record { id = id; literals = ls; hints = map pos step.hints })) (literals_back step.literals (in_range id step is))

-- the lines of a text
line_append : (line rest : List ℕ) → (Contains line 10 → ⊥) → lines_of (line ++ 10 ∷ rest) ≡ line ∷ lines_of rest
line_append [] rest plain = refl
line_append (b ∷ bs) rest plain =
    at (b == 10) refl (line_append bs rest (λ h. plain (suc h.0, let lt = h.1 in omega (arith, lt), h.2))) where
      at : (t : Bool) → (b == 10) ≡ t → lines_of (bs ++ 10 ∷ rest) ≡ bs ∷ lines_of rest → cond t ([] ∷ lines_of (bs ++ 10 ∷ rest)) (onto_first b (lines_of (bs ++ 10 ∷ rest))) ≡ (b ∷ bs) ∷ lines_of rest
      at true e h = absurd (plain (0, omega arith, eqb-true b 10 e))
      at false e h = ap (onto_first b) h

no_feed : (id : ℕ) (step : Step) → IsStep id step → Contains (step_line id step) 10 → ⊥
no_feed id step is = log_is_line_grammar.lines None (step_line id step) (Some id) (record { id = id; step = step; is = is; spelled = refl; follows = tt; reached = refl })

-- a number is no comment
stands : (id : ℕ) (words : List (List ℕ)) → id < 2 ^ 64 → is_passed_over (decimal id ∷ words) ≡ false
stands id words small = at (get_or (decimal id) 0 0 == 99) refl (AllPass-from_list_all is_ascii_digit (decimal id) (digits_decimal model id small) 0 0 (decimal_nonempty id small)) where
  at : (t : Bool) → (get_or (decimal id) 0 0 == 99) ≡ t → is_ascii_digit (get_or (decimal id) 0 0) ≡ true → (get_or (decimal id) 0 0 == 99) ≡ false
  at false e digit = e
  at true e digit = let clash : false ≡ true = subst (λ n. is_ascii_digit n ≡ true) (eqb-true (get_or (decimal id) 0 0) 99 e) digit in absurd (cc)

next_line : (number id : ℕ) (step : Step) (rest : List ℕ) → IsStep id step → lines_from (number + 1) ((step_line id step ++ 10 ∷ []) ++ rest) ≡ (number + 1, words_of (step_line id step)) ∷ lines_from (number + 1 + 1) rest
next_line number id step rest is =
    let numbered = is.numbered in
    ap (lines_from (number + 1)) (append_assoc (step_line id step) (10 ∷ []) rest)
    ∙ lines_next number (number + 1) (step_line id step ++ 10 ∷ rest) (step_line id step) rest false refl (line_append (step_line id step) rest (no_feed id step is))
    (sym (ap is_passed_over (words_line id step is) ∙ stands id (map literal_text step.literals ++ codes "0" ∷ (map decimal step.hints ++ codes "0" ∷ [])) (omega (arith, numbered))))

-- steps stand behind others: the ids of these fill the place between the clauses and the step that is next
pub record AreBefore (count : ℕ) (ids : List ℕ) (id : ℕ) : Type 0 where
  pub count_is : length ids + count + 1 ≡ id
  pub each : (h : ℕ) → count < h → h < id → slice_get ids (h - (count + 1)) ≡ Some h

none_before : (count : ℕ) → AreBefore count [] (count + 1)
none_before count = record { count_is = omega arith; each = λ h above under. absurd (omega (arith, above, under)) }

get_push : (ids : List ℕ) (id k h : ℕ) → slice_get ids k ≡ Some h → slice_get (ids ++ id ∷ []) k ≡ Some h
get_push [] id k h is = let never : None ≡ Some h = is in absurd (cc)
get_push (x ∷ xs) id zero h is = is
get_push (x ∷ xs) id (suc k) h is = get_push xs id k h is

get_last : (ids : List ℕ) (id k : ℕ) → k ≡ length ids → slice_get (ids ++ id ∷ []) k ≡ Some id
get_last [] id k is = ap (slice_get (id ∷ [])) is
get_last (x ∷ xs) id zero is = absurd (omega (arith, is))
get_last (x ∷ xs) id (suc k) is = get_last xs id k (omega (arith, is))

more_before : (count : ℕ) (ids : List ℕ) (id : ℕ) → AreBefore count ids id → AreBefore count (ids ++ id ∷ []) (id + 1)
more_before count ids id before = record {
  count_is = let e = before.count_is in let l = length_push ids id in omega (arith, e, l);
  each = λ h above under. elim (cases_lt h id) [
    | inl lt ↦ get_push ids id (h - (count + 1)) h (before.each h above lt)
    | inr ge ↦
        let e = before.count_is in
        let same : id ≡ h = omega (arith, ge, under) in
        subst (λ n. slice_get (ids ++ id ∷ []) (h - (count + 1)) ≡ Some n) same (get_last ids id (h - (count + 1)) (omega (arith, e, same)))
  ];
}

last_below : (count : ℕ) (ids : List ℕ) (id : ℕ) → AreBefore count ids id → last_id count ids < id
last_below count ids id before = at (length ids) refl where
  at : (n : ℕ) → length ids ≡ n → last_id count ids < id
  at zero z =
      let e = before.count_is in
      let same : last_id count ids ≡ count = last_at count ids ∙ ap (λ n. get_or (count ∷ ids) n 0) z in
      omega (arith, e, z, same)
  at (suc k) z =
      let e = before.count_is in
      let place : id - 1 - (count + 1) ≡ k = omega (arith, e, z) in
      let is : slice_get ids k ≡ Some (id - 1) = ap (slice_get ids) (sym place) ∙ before.each (id - 1) (omega (arith, e, z)) (omega (arith, e)) in
      let same : last_id count ids ≡ id - 1 = last_at count ids ∙ ap (λ n. get_or (count ∷ ids) n 0) z ∙ get_or_from_slice_get ids k (id - 1) 0 is in
      omega (arith, e, same)

hint_names : (count : ℕ) (ids : List ℕ) (id h : ℕ) → AreBefore count ids id → 0 < h → h < id → names_clause count ids (pos h) ≡ true
hint_names count ids id h before up under = elim (cases_lt count h) [
  | inr le ↦ ap (λ t. (t && nat_le h count) || list_any (λ i. i == h) ids) (lt-ltb 0 h up) ∙ ap (λ t. t || list_any (λ i. i == h) ids) (le-leb h count le)
  | inl above ↦
      let is = before.each h above under in
      let within = slice_get_within ids (h - (count + 1)) h is in
      let found : list_any (λ i. i == h) ids ≡ true = any_has (λ i. i == h) ids (h - (count + 1)) h within (get_or_from_slice_get ids (h - (count + 1)) h h is) (search rules) in
      ap (λ t. (nat_lt 0 h && nat_le h count) || t) found ∙ or_true (nat_lt 0 h && nat_le h count)
] where
  or_true : (a : Bool) → (a || true) ≡ true
  or_true true = refl
  or_true false = refl

hint_is_own : (count : ℕ) (ids : List ℕ) (id h : ℕ) → AreBefore count ids id → 0 < h → h < id → IsOwnId count ids (pos h) h
hint_is_own count ids id h before up under = elim (cases_lt count h) [
  | inr le ↦ inl (up, le, refl)
  | inl above ↦ inr (above, (h, refl, before.each h above under))
]

hints_name : (count : ℕ) (ids : List ℕ) (id : ℕ) (hints : List ℕ) → AreBefore count ids id → All (λ h. (0 < h) × (h < id)) hints → list_all (names_clause count ids) (map pos hints) ≡ true
hints_name count ids id [] before all = refl
hints_name count ids id (h ∷ hs) before all =
    let here = all_head (λ x. (0 < x) × (x < id)) h hs all in
    ap (λ t. t && list_all (names_clause count ids) (map pos hs)) (hint_names count ids id h before here.0 here.1)
    ∙ hints_name count ids id hs before (all_tail (λ x. (0 < x) × (x < id)) h hs all)

hints_are_own : (count : ℕ) (ids : List ℕ) (id : ℕ) (hints : List ℕ) → AreBefore count ids id → All (λ h. (0 < h) × (h < id)) hints → AreOwnIds count ids (map pos hints) hints
hints_are_own count ids id [] before all = tt
hints_are_own count ids id (h ∷ hs) before all =
    let here = all_head (λ x. (0 < x) × (x < id)) h hs all in
    (hint_is_own count ids id h before here.0 here.1, hints_are_own count ids id hs before (all_tail (λ x. (0 < x) × (x < id)) h hs all))

-- a step of a log may pass
passes : (formula : Formula) (ids : List ℕ) (id : ℕ) (step : Step) → AreBefore (length formula.clauses) ids id → IsStep id step → All (λ l. l.var ≤ formula.vars) step.literals → may_pass formula ids (said_of id step) ≡ true
passes formula ids id step before is within =
    let up = above_low 0 step.literals is.clause.ascending in
    let all : list_all (is_within formula.vars) step.literals ≡ true = list_all-from_AllPass (is_within formula.vars) step.literals (λ k d lt. true_within formula.vars (get_or step.literals k d) (up k d lt) (within k d lt)) in
    let plain : is_tautology step.literals ≡ false = elim (cases_Bool (is_tautology step.literals)) [
      | inl holds ↦ absurd (no_opposites step.literals is.clause.ascending (opposites step.literals holds))
      | inr fails ↦ fails
    ] in
    let clause : is_clause_over formula.vars step.literals ≡ true = ap (λ t. t && not (is_tautology step.literals)) all ∙ ap not plain in
    let hinted = is.hinted in
    let count = length_map step.hints in
    ap (λ t. t && (list_all (names_clause (length formula.clauses) ids) (map pos step.hints) && nat_lt 0 (length (map pos step.hints)))) clause
    ∙ ap (λ t. t && nat_lt 0 (length (map pos step.hints))) (hints_name (length formula.clauses) ids id step.hints before is.before)
    ∙ lt-ltb 0 (length (map pos step.hints)) (omega (arith, hinted, count)) where
      length_map : (hs : List ℕ) → length (map pos hs) ≡ length hs
      length_map [] = refl
      length_map (h ∷ hs) = ap suc (length_map hs)

-- the steps of a log, as its text says them
abbrev pub said_steps : ℕ → List Step → List StepText
said_steps id [] = []
said_steps id (s ∷ ss) = said_of id s ∷ said_steps (id + 1) ss

abbrev pub said_so_far : List StepText → ProofText
said_so_far steps = record { steps = steps; ill = None }

abbrev text_of_lines : List (List ℕ) → List ℕ
text_of_lines lines = flat_map (λ line. line ++ 10 ∷ []) lines

-- the last step, and no other, is empty
abbrev AreEnded : List Step → Type 0
AreEnded steps = (k : ℕ) (step : Step) → slice_get steps k ≡ Some step → (step.literals ≡ []) ↔ (k + 1 ≡ length steps)

no_empty : (ls : List Literal) → ls ≢ [] → (length ls == 0) ≡ false
no_empty [] some = absurd (some refl)
no_empty (l ∷ ls) some = ne_eqb (length (l ∷ ls)) 0 (λ e. omega (arith, e))

-- behind any steps, whatever the numbers of the lines and of the steps are
abbrev ReadsAll : Formula → List Step → Type 0
ReadsAll formula steps = (before : List StepText) (number id : ℕ) → AreBefore (length formula.clauses) (ids_of before) id → is_over (said_so_far before) ≡ false → AreSteps id steps
    → All (λ step. All (λ l. l.var ≤ formula.vars) step.literals) steps → AreEnded steps
    → read_steps formula (said_so_far before) (lines_from (number + 1) (text_of_lines (step_lines id steps))) ≡ Ok (said_so_far (before ++ said_steps id steps))

-- one step more, and then the others
step_read : (formula : Formula) (s : Step) (ss : List Step) → ReadsAll formula ss → ReadsAll formula (s ∷ ss)
step_read formula s ss again before number id stand on are within ended =
    let one : StepText = said_of id s in
    let rest : List ℕ = text_of_lines (step_lines (id + 1) ss) in
    let seen = ids_of before in
    let may = passes formula seen id s stand are.0 (all_head (λ (t : Step). All (λ l. l.var ≤ formula.vars) t.literals) s ss within) in
    let next = step_next formula (said_so_far before) one (last_id (length formula.clauses) seen) seen seen true refl refl refl (last_below (length formula.clauses) seen id stand) (sym may) in
    let line : Line = (number + 1, words_of (step_line id s)) in
    ap (read_steps formula (said_so_far before)) (next_line number id s rest are.0)
    ∙ lines_on formula (said_so_far before) line (lines_from (number + 1 + 1) rest) (Some (said_so_far (before ++ one ∷ []))) on (ap (λ l. with_line formula (said_so_far before) l) (line_says id s are.0) ∙ next)
    ∙ go ss again are.1 within ended where
      go : (ss : List Step) → ReadsAll formula ss → AreSteps (id + 1) ss → All (λ step. All (λ l. l.var ≤ formula.vars) step.literals) (s ∷ ss) → AreEnded (s ∷ ss)
          → read_steps formula (said_so_far (before ++ said_of id s ∷ [])) (lines_from (number + 1 + 1) (text_of_lines (step_lines (id + 1) ss))) ≡ Ok (said_so_far (before ++ said_of id s ∷ said_steps (id + 1) ss))
      go [] again are within ended = refl
      go (t ∷ ts) again are within ended =
          let some : s.literals ≢ [] = λ empty. let at_end = (ended 0 s refl).0 empty in omega (arith, at_end) in
          let not_over : is_over (said_so_far (before ++ said_of id s ∷ [])) ≡ false = over_push (said_so_far before) (said_of id s) on ∙ no_empty s.literals some in
          let stand_next = subst (λ ids. AreBefore (length formula.clauses) ids (id + 1)) (sym (ids_push before (said_of id s))) (more_before (length formula.clauses) (ids_of before) id stand) in
          again (before ++ said_of id s ∷ []) (number + 1) (id + 1) stand_next not_over are (all_tail (λ (u : Step). All (λ l. l.var ≤ formula.vars) u.literals) s (t ∷ ts) within)
          (λ k u at. ((λ empty. let e = (ended (suc k) u at).0 empty in omega (arith, e)), (λ last. (ended (suc k) u at).1 (omega (arith, last)))))
          ∙ ap (λ steps. Ok (said_so_far steps)) (append_assoc before (said_of id s ∷ []) (said_steps (id + 1) (t ∷ ts)))

steps_read : (formula : Formula) (steps : List Step) → ReadsAll formula steps
steps_read formula [] = λ before number id stand on are within ended. ap (λ steps. Ok (said_so_far steps)) (sym (append-nil before))
steps_read formula (s ∷ ss) = step_read formula s ss (steps_read formula ss)

steps_kept : (count : ℕ) (ids : List ℕ) (id : ℕ) (steps : List Step) → AreBefore count ids id → AreSteps id steps → AreStepsKept count ids (said_steps id steps) steps
steps_kept count ids id [] before are = tt
steps_kept count ids id (s ∷ ss) before are = (
  record {
    literals = record { ascending = are.0.clause.ascending; same = λ l. ((λ h. h), (λ h. h)) };
    hints = hints_are_own count ids id s.hints before are.0.before;
  },
  steps_kept count (ids ++ id ∷ []) (id + 1) ss (more_before count ids id before) are.1,
)

-- what the text of a log says of it
pub log_says : (formula : Formula) (log : StepList) → log.first ≡ length formula.clauses + 1 → AreSteps log.first log.steps → AreShaped formula.vars log.steps
    → (said : ProofText) × (proof_of formula (log_text log) ≡ Ok said) × AreStepsKept (length formula.clauses) [] said.steps log.steps
log_says formula log first are shaped =
    let before = subst (AreBefore (length formula.clauses) []) (sym first) (none_before (length formula.clauses)) in
    (said_so_far (said_steps log.first log.steps), steps_read formula log.steps [] 0 log.first before refl are shaped.within shaped.ended, steps_kept (length formula.clauses) [] log.first log.steps before are)
