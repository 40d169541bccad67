-- Where the first word of a line and the first line of a text end.
use Rattle.std.proofs.Common.{◌≡◌, ℕ, zero, suc, ◌+◌, ◌<◌, ◌≤◌, Bool, true, false, cond, List, [], ◌∷◌, length, take, drop, get_or, refl, sym, ◌∙◌, ap, subst, inl, inr, arith}
use Rattle.std.specs.Prelude.{filter, nat_lt, not, map, ◌==◌, Option, Some, None, unwrap_or, position}
use Rattle.std.specs.List.{slice_split, onto_first, enumerate_from, prefix_len, position_or_len, before_first, after_first}
use Rattle.std.specs.Char.{is_ascii_whitespace}
use Rattle.std.proofs.lemmas.Bool.{cases_lt, lt-ltb, ltb-false}
use Rattle.std.proofs.lemmas.List.{drop_more, drop_all, take_all, length-take-le}
use Rattle.std.proofs.lemmas.List.Splits.{slice_split-cons_yes, slice_split_first, slice_split_none}
use Rattle.std.proofs.lemmas.List.Sums.{prefix_len-le-length, prefix_len_stops, passes_at_first, fails_before_first}
use Rattle.std.specs.List.{All}
use Rattle.bx_dimacs.specs.Words.{Line, lines_of, lines_from, words_of, is_passed_over}

-- the parts that aren't empty
abbrev parts : (ℕ → Bool) → List ℕ → List (List ℕ)
parts p bytes = filter (λ part. nat_lt 0 (length part)) (slice_split p bytes)

parts_skip : (p : ℕ → Bool) (b : ℕ) (bs : List ℕ) → p b ≡ true → parts p (b ∷ bs) ≡ parts p bs
parts_skip p b bs h = ap (filter (λ part. nat_lt 0 (length part))) (slice_split-cons_yes p b bs h)

-- what parts words in front of the first means nothing
parts_trim : (p : ℕ → Bool) (bytes : List ℕ) → parts p bytes ≡ parts p (drop (prefix_len p bytes) bytes)
parts_trim p [] = refl
parts_trim p (b ∷ bs) = at (p b) refl (parts_trim p bs) where
  at : (t : Bool) → p b ≡ t → parts p bs ≡ parts p (drop (prefix_len p bs) bs) → parts p (b ∷ bs) ≡ parts p (drop (cond t (1 + prefix_len p bs) 0) (b ∷ bs))
  at true h rest =
      let one : 1 + prefix_len p bs ≡ suc (prefix_len p bs) = omega arith in
      parts_skip p b bs h ∙ rest ∙ ap (λ n. parts p (drop n (b ∷ bs))) (sym one)
  at false h rest = refl

-- the first part ends at the first byte that parts
parts_first : (p : ℕ → Bool) (bytes : List ℕ) → 0 < position_or_len p bytes → parts p bytes ≡ take (position_or_len p bytes) bytes ∷ parts p (drop (position_or_len p bytes) bytes)
parts_first p bytes some =
    let n : ℕ = position_or_len p bytes in
    let le : n ≤ length bytes = prefix_len-le-length _ bytes in
    let front : List ℕ = take n bytes in
    let full : nat_lt 0 (length front) ≡ true = lt-ltb 0 (length front) (omega (arith, length-take-le n bytes le, some)) in
    let kept : (rest : List (List ℕ)) → filter (λ part. nat_lt 0 (length part)) (front ∷ rest) ≡ front ∷ filter (λ part. nat_lt 0 (length part)) rest
    = λ rest. ap (λ t. cond t (front ∷ filter (λ part. nat_lt 0 (length part)) rest) (filter (λ part. nat_lt 0 (length part)) rest)) full in
    elim (cases_lt n (length bytes)) [
      | inl within ↦
          let split = slice_split_first p bytes 0 within in
          let behind : drop n bytes ≡ get_or bytes n 0 ∷ after_first p bytes = drop_more bytes n 0 within in
          let skip = parts_skip p (get_or bytes n 0) (after_first p bytes) (passes_at_first p bytes 0 within) in
          ap (filter (λ part. nat_lt 0 (length part))) split ∙ kept (slice_split p (after_first p bytes)) ∙ ap (λ ps. front ∷ ps) (sym skip ∙ ap (parts p) (sym behind))
      | inr past ↦
          let fails : All (λ b. p b ≡ false) bytes = λ k d lt. fails_before_first p bytes k d (omega (arith, lt, past)) in
          let whole : bytes ≡ front = sym (take_all n bytes past) in
          let rest : drop n bytes ≡ [] = drop_all n bytes past in
          ap (filter (λ part. nat_lt 0 (length part))) (slice_split_none p bytes fails ∙ ap (λ x. x ∷ []) whole) ∙ kept [] ∙ ap (λ ps. front ∷ ps) (sym (ap (parts p) rest))
    ]

-- the first word of a line, and what stands behind it
pub words_first : (line trimmed : List ℕ) (end : ℕ) → trimmed ≡ drop (prefix_len is_ascii_whitespace line) line → end ≡ position_or_len is_ascii_whitespace trimmed → 0 < end → words_of line ≡ take end trimmed ∷ words_of (drop end trimmed)
words_first line trimmed end is at some =
    let P : ℕ → Type 0 = λ n. 0 < n → words_of trimmed ≡ take n trimmed ∷ words_of (drop n trimmed) in
    parts_trim is_ascii_whitespace line ∙ ap words_of (sym is) ∙ subst P (sym at) (parts_first is_ascii_whitespace trimmed) some

-- a line without a word
pub no_words : (line trimmed : List ℕ) → trimmed ≡ drop (prefix_len is_ascii_whitespace line) line → trimmed ≡ [] → words_of line ≡ []
no_words line trimmed is empty = parts_trim is_ascii_whitespace line ∙ ap words_of (sym is ∙ empty)

-- behind what parts words nothing stands, or a word
pub starts_with_word : (line trimmed : List ℕ) → trimmed ≡ drop (prefix_len is_ascii_whitespace line) line → position_or_len is_ascii_whitespace trimmed ≡ 0 → trimmed ≡ []
starts_with_word line trimmed is none =
    let k : ℕ = prefix_len is_ascii_whitespace line in
    elim (cases_lt k (length line)) [
      | inl within ↦
          let behind : trimmed ≡ get_or line k 0 ∷ drop (k + 1) line = is ∙ drop_more line k 0 within in
          let no : is_ascii_whitespace (get_or line k 0) ≡ false = prefix_len_stops is_ascii_whitespace line 0 within in
          let rest : ℕ = position_or_len is_ascii_whitespace (drop (k + 1) line) in
          let one : position_or_len is_ascii_whitespace trimmed ≡ 1 + rest = ap (position_or_len is_ascii_whitespace) behind ∙ ap (λ t. cond (not t) (1 + rest) 0) no in
          absurd (omega (arith, none, one))
      | inr past ↦ is ∙ drop_all k line past
    ]

-- the first line of a text ends at the first line feed
lines_first : (b : ℕ) (bs : List ℕ) → lines_of (b ∷ bs) ≡ take (position_or_len (λ b. b == 10) (b ∷ bs)) (b ∷ bs) ∷ lines_of (drop 1 (drop (position_or_len (λ b. b == 10) (b ∷ bs)) (b ∷ bs)))
lines_first b [] = at (b == 10) where
  at : (t : Bool) → cond t ([] ∷ []) ((b ∷ []) ∷ []) ≡ take (cond (not t) 1 0) (b ∷ []) ∷ lines_of (drop 1 (drop (cond (not t) 1 0) (b ∷ [])))
  at true = refl
  at false = refl
lines_first b (c ∷ cs) = at (b == 10) (lines_first c cs) where
  at : (t : Bool) → lines_of (c ∷ cs) ≡ take (position_or_len (λ b. b == 10) (c ∷ cs)) (c ∷ cs) ∷ lines_of (drop 1 (drop (position_or_len (λ b. b == 10) (c ∷ cs)) (c ∷ cs)))
      → cond t ([] ∷ lines_of (c ∷ cs)) (onto_first b (lines_of (c ∷ cs))) ≡ take (cond (not t) (1 + position_or_len (λ b. b == 10) (c ∷ cs)) 0) (b ∷ c ∷ cs) ∷ lines_of (drop 1 (drop (cond (not t) (1 + position_or_len (λ b. b == 10) (c ∷ cs)) 0) (b ∷ c ∷ cs)))
  at true h = refl
  at false h =
      let n : ℕ = position_or_len (λ b. b == 10) (c ∷ cs) in
      let one : 1 + n ≡ suc n = omega arith in
      ap (onto_first b) h ∙ ap (λ m. take m (b ∷ c ∷ cs) ∷ lines_of (drop 1 (drop m (b ∷ c ∷ cs)))) (sym one)

-- the first line of a text, and what stands behind it
pub lines_cut : (text line behind rest : List ℕ) (end : ℕ) → 0 < length text → end ≡ position_or_len (λ b. b == 10) text → line ≡ take end text → behind ≡ drop end text → rest ≡ drop 1 behind → lines_of text ≡ line ∷ lines_of rest
lines_cut [] line behind rest end some at front back without = absurd (omega (arith, some))
lines_cut (b ∷ bs) line behind rest end some at front back without =
    let n : ℕ = position_or_len (λ b. b == 10) (b ∷ bs) in
    let is_line : take n (b ∷ bs) ≡ line = sym (front ∙ ap (λ k. take k (b ∷ bs)) at) in
    let is_rest : drop 1 (drop n (b ∷ bs)) ≡ rest = sym (without ∙ ap (drop 1) (back ∙ ap (λ k. drop k (b ∷ bs)) at)) in
    lines_first b bs ∙ ap (λ l. l ∷ lines_of (drop 1 (drop n (b ∷ bs)))) is_line ∙ ap (λ r. line ∷ lines_of r) is_rest

-- the next line is passed over, or is the first of those that aren't
pub lines_next : (n m : ℕ) (text line rest : List ℕ) (passed : Bool) → m ≡ n + 1 → lines_of text ≡ line ∷ lines_of rest → passed ≡ is_passed_over (words_of line) → lines_from (n + 1) text ≡ cond passed (lines_from (m + 1) rest) ((m, words_of line) ∷ lines_from (m + 1) rest)
lines_next n m text line rest passed up cut is =
    let told : Bool → ℕ → List Line = λ t k. cond (not t) ((k, words_of line) ∷ lines_from (k + 1) rest) (lines_from (k + 1) rest) in
    ap (λ ls. filter (λ (l : Line). not (is_passed_over l.1)) (enumerate_from (n + 1) (map words_of ls))) cut
    ∙ ap (λ k. told (is_passed_over (words_of line)) k) (sym up)
    ∙ ap (λ t. told t m) (sym is)
    ∙ turned passed where
      turned : (t : Bool) → cond (not t) ((m, words_of line) ∷ lines_from (m + 1) rest) (lines_from (m + 1) rest) ≡ cond t (lines_from (m + 1) rest) ((m, words_of line) ∷ lines_from (m + 1) rest)
      turned true = refl
      turned false = refl

-- where a search for a place ends
pub place_or_len : (p : ℕ → Bool) (bytes : List ℕ) (place : Option ℕ) (end : ℕ) → place ≡ position p bytes → end ≡ unwrap_or place (length bytes) → end ≡ position_or_len p bytes
place_or_len p bytes place end is or =
    let n : ℕ = position_or_len p bytes in
    let le : n ≤ length bytes = prefix_len-le-length _ bytes in
    or ∙ ap (λ o. unwrap_or o (length bytes)) is ∙ at (nat_lt n (length bytes)) n (length bytes) (λ h. omega (arith, le, ltb-false n (length bytes) h)) where
      at : (t : Bool) (n m : ℕ) → (t ≡ false → m ≡ n) → unwrap_or (cond t (Some n) None) m ≡ n
      at true n m past = refl
      at false n m past = past refl
