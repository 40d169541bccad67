-- How the text of a proof goes on, number by number and step by step.
use Rattle.std.proofs.Common.{◌≡◌, ◌≢◌, ℕ, zero, suc, ◌+◌, ◌-◌, ◌^◌, ◌<◌, ◌≤◌, ◌&&◌, ◌||◌, ◌==◌, Bool, true, false, cond, not, List, [], ◌∷◌, ◌++◌, length, map, get_or, Option, Some, None, is_some, Ok, Err, Result, ℤ, pos, negsuc, nat_lt, nat_le, refl, sym, ◌∙◌, ap, subst, inl, inr, arith, append_assoc, append-nil, lt-ltb, le-ltb, ltb-true, leb-true, rules, IsTrue, ◌⊎◌, take, ne_eqb, nat_cmp}
use Rattle.std.specs.Prelude.{All, Contains, slice_get, MatchResult}
use Rattle.std.specs.List.Sorted.{IsStrictlyIncreasing, IsBinarySearchResult}
use Rattle.std.specs.List.{list_any, list_all}
use Rattle.std.proofs.lemmas.Bool.{cases_lt, cases_Bool, and_parts, lt-leb}
use Rattle.std.proofs.lemmas.Bool.Decides.{nat_tests}
use Rattle.std.proofs.lemmas.List.{take_more}
use Rattle.std.proofs.lemmas.List.Elements.{All-push}
use Rattle.std.proofs.lemmas.List.Folds.{list_any-append, list_any_none, list_all_more, list_all_at, list_all-map}
use Rattle.std.proofs.lemmas.List.Kept.{AllPairs-from_increasing}
use Rattle.std.proofs.lemmas.List.Sorted.{searched}
use Rattle.std.proofs.lemmas.List.Sums.{AllPass-from_list_all, list_all-from_AllPass}
use Rattle.std.proofs.lemmas.Option.{slice_get_within, slice_get-get_or}
use Rattle.bx_cnf.specs.Literals.{Literal, literal_of}
use Rattle.bx_cnf.specs.Formulas.{Formula, IsClause, AscendAbove}
use Rattle.bx_proof.specs.Steps.{Step, StepList, IsStep}
use Rattle.bx_dimacs.specs.declared.proof.LratProof.{LratProof}
use Rattle.bx_dimacs.specs.FormulaTexts.{is_tautology, behind_line}
use Rattle.bx_dimacs.specs.Keeping.{AreInOrder}
use Rattle.bx_dimacs.specs.Proofs.{IsOwnId, AreOwnIds, IsStepKept, AreStepsKept, KeepsSteps}
use Rattle.bx_dimacs.specs.ProofTexts.{StepText, Numbers, behind_numbers, numbers_from, numbers_of, ProofText, ids_of, last_id, is_clause_over, names_clause, may_pass, put_step, with_step, with_line, line_of, is_over, read_steps}
use Rattle.bx_dimacs.specs.StepsShown.{KeepsSoFar}
use Rattle.bx_dimacs.specs.Words.{Line, signed_of}
use Rattle.bx_dimacs.proofs.Lists.{all_by, all_cons, ascend_behind}
use Rattle.bx_dimacs.proofs.Open.{IsPushed}

-- numbers in front of others
pub behind_none : (rest : Option Numbers) → behind_numbers [] rest ≡ rest
behind_none None = refl
behind_none (Some r) = refl

behind_twice : (xs ys : List ℤ) (rest : Option Numbers) → behind_numbers xs (behind_numbers ys rest) ≡ behind_numbers (xs ++ ys) rest
behind_twice xs ys None = refl
behind_twice xs ys (Some r) = ap (λ zs. let found : Option Numbers = Some (zs, r.1) in found) (sym (append_assoc xs ys r.0))

pub numbers_some : (z : ℤ) (words : List (List ℕ)) (rest : Option Numbers) → z ≢ pos 0 → numbers_from (Some z) words rest ≡ behind_numbers (z ∷ []) rest
numbers_some (pos zero) words rest some = absurd (some refl)
numbers_some (pos (suc n)) words rest some = refl
numbers_some (negsuc n) words rest some = refl

-- what the next word makes of the numbers that stand before it
numbers_next : (numbers : List ℤ) (line words : List (List ℕ)) (word : List ℕ) (found : Option ℤ) → line ≡ word ∷ words → signed_of word ≡ found → behind_numbers numbers (numbers_of line) ≡ behind_numbers numbers (numbers_from found words (numbers_of words))
numbers_next numbers line words word found is spells =
    ap (λ ws. behind_numbers numbers (numbers_of ws)) is ∙ ap (λ o. behind_numbers numbers (numbers_from o words (numbers_of words))) spells

pub numbers_more : (numbers : List ℤ) (z : ℤ) (line words : List (List ℕ)) (word : List ℕ) → line ≡ word ∷ words → signed_of word ≡ Some z → z ≢ pos 0 → behind_numbers numbers (numbers_of line) ≡ behind_numbers (numbers ++ z ∷ []) (numbers_of words)
numbers_more numbers z line words word is spells some =
    numbers_next numbers line words word (Some z) is spells
    ∙ ap (behind_numbers numbers) (numbers_some z words (numbers_of words) some)
    ∙ behind_twice numbers (z ∷ []) (numbers_of words)

pub numbers_end : (numbers : List ℤ) (line words : List (List ℕ)) (word : List ℕ) → line ≡ word ∷ words → signed_of word ≡ Some (pos 0) → behind_numbers numbers (numbers_of line) ≡ Some (numbers, words)
numbers_end numbers line words word is spells =
    numbers_next numbers line words word (Some (pos 0)) is spells
    ∙ ap (λ zs. let found : Option Numbers = Some (zs, words) in found) (append-nil numbers)

pub numbers_stuck : (numbers : List ℤ) (line words : List (List ℕ)) (word : List ℕ) → line ≡ word ∷ words → signed_of word ≡ None → behind_numbers numbers (numbers_of line) ≡ None
numbers_stuck numbers line words word is spells = numbers_next numbers line words word None is spells

pub numbers_none : (numbers : List ℤ) (line : List (List ℕ)) → line ≡ [] → behind_numbers numbers (numbers_of line) ≡ None
numbers_none numbers line is = ap (λ ws. behind_numbers numbers (numbers_of ws)) is

-- literals are a clause over so many variables
abbrev pub is_within : ℕ → Literal → Bool
is_within vars l = nat_lt 0 l.var && nat_le l.var vars

within_true : (vars : ℕ) (l : Literal) → is_within vars l ≡ true → l.var ≤ vars
within_true vars l is = leb-true l.var vars (and_parts _ _ is).1

pub true_within : (vars : ℕ) (l : Literal) → 0 < l.var → l.var ≤ vars → is_within vars l ≡ true
true_within vars l up le = search rules

-- one that has too high a variable, or none, makes no clause
pub no_clause_at : (vars : ℕ) (literals : List Literal) → list_all (is_within vars) literals ≡ false → is_clause_over vars literals ≡ false
no_clause_at vars literals none = ap (λ t. t && not (is_tautology literals)) none

-- literals in order are a clause exactly where those of the text make one
pub clause_test : (vars : ℕ) (literals ordered : List Literal) (is : Bool) → All (λ l. 0 < l.var) literals
    → ((l : Literal) → (Contains literals l → Contains ordered l) × (Contains ordered l → Contains literals l))
    → (is_tautology literals ≡ false → AscendAbove 0 ordered) → (is_tautology literals ≡ true → AscendAbove 0 ordered → ⊥)
    → (is ≡ true → IsClause vars ordered) → (IsClause vars ordered → is ≡ true) → is ≡ is_clause_over vars literals
clause_test vars literals ordered is positive same ascending twice to from =
    by (list_all (is_within vars) literals) refl (is_tautology literals) refl is refl where
      each : IsClause vars ordered → list_all (is_within vars) literals ≡ true
      each clause = list_all-from_AllPass (is_within vars) literals (λ k d lt.
          true_within vars (get_or literals k d) (positive k d lt)
          (all_by (λ (l : Literal). l.var ≤ vars) literals ordered (λ l h. (same l).0 h) clause.within k d lt))

      made : list_all (is_within vars) literals ≡ true → is_tautology literals ≡ false → IsClause vars ordered
      made all plain =
          let passing = AllPass-from_list_all (is_within vars) literals all in
          let within : All (λ (l : Literal). l.var ≤ vars) literals = λ k d lt. within_true vars (get_or literals k d) (passing k d lt) in
          record {
            ascending = ascending plain;
            within = all_by (λ (l : Literal). l.var ≤ vars) ordered literals (λ l h. (same l).1 h) within;
          }

      by : (t : Bool) → list_all (is_within vars) literals ≡ t → (u : Bool) → is_tautology literals ≡ u → (b : Bool) → is ≡ b → is ≡ (list_all (is_within vars) literals && not (is_tautology literals))
      by t all u plain true holds_is =
          let clause = to holds_is in
          let no_tautology : is_tautology literals ≡ false = elim (cases_Bool (is_tautology literals)) [
            | inl holds ↦ absurd (twice holds clause.ascending)
            | inr fails ↦ fails
          ] in
          holds_is ∙ sym (ap (λ x. x && not (is_tautology literals)) (each clause) ∙ ap not no_tautology)
      by false all u plain false fails_is = fails_is ∙ sym (ap (λ x. x && not (is_tautology literals)) all)
      by true all true tautology false fails_is = fails_is ∙ sym (ap (λ x. x && not (is_tautology literals)) all ∙ ap not tautology)
      by true all false plain false fails_is = let clash : false ≡ true = sym fails_is ∙ from (made all plain) in absurd (cc)

-- own ids of hints
own_before : (count : ℕ) (ids : List ℕ) (hint : ℤ) (own : ℕ) → IsOwnId count ids hint own → (0 < own) × (own < count + 1 + length ids)
own_before count ids hint own (inl is) = (is.0, let le = is.1 in omega (arith, le))
own_before count ids hint own (inr is) =
    let lt = is.0 in
    let within : own - (count + 1) < length ids = slice_get_within ids (own - (count + 1)) is.1.0 is.1.2 in
    (omega (arith, lt), omega (arith, lt, within))

owns_before : (count : ℕ) (ids : List ℕ) (hints : List ℤ) (owns : List ℕ) → AreOwnIds count ids hints owns → All (λ h. (0 < h) × (h < count + 1 + length ids)) owns
owns_before count ids [] [] are = λ k d lt. absurd (omega (arith, lt))
owns_before count ids [] (o ∷ os) are = absurd are
owns_before count ids (h ∷ hs) [] are = absurd are
owns_before count ids (h ∷ hs) (o ∷ os) are =
    all_cons (λ x. (0 < x) × (x < count + 1 + length ids)) o os (own_before count ids h o are.0) (owns_before count ids hs os are.1)

owns_length : (count : ℕ) (ids : List ℕ) (hints : List ℤ) (owns : List ℕ) → AreOwnIds count ids hints owns → length hints ≡ length owns
owns_length count ids [] [] are = refl
owns_length count ids [] (o ∷ os) are = absurd are
owns_length count ids (h ∷ hs) [] are = absurd are
owns_length count ids (h ∷ hs) (o ∷ os) are = ap suc (owns_length count ids hs os are.1)

pub owns_push : (count : ℕ) (ids : List ℕ) (hints : List ℤ) (owns : List ℕ) (hint : ℤ) (own : ℕ) → AreOwnIds count ids hints owns → IsOwnId count ids hint own → AreOwnIds count ids (hints ++ hint ∷ []) (owns ++ own ∷ [])
owns_push count ids [] [] hint own are is = (is, tt)
owns_push count ids [] (o ∷ os) hint own are is = absurd are
owns_push count ids (h ∷ hs) [] hint own are is = absurd are
owns_push count ids (h ∷ hs) (o ∷ os) hint own are is = (are.0, owns_push count ids hs os hint own are.1 is)

-- of literals in order and hints that name clauses, only a missing hint can make no step
pub step_test : (count own vars : ℕ) (ids : List ℕ) (hints : List ℤ) (literals : List Literal) (owns : List ℕ) (is : Bool) → own ≡ count + 1 + length ids → own < 2 ^ 32 → vars < 2 ^ 31 → IsClause vars literals → AreOwnIds count ids hints owns
    → (is ≡ true → IsStep own (record { literals = literals; hints = owns })) → (IsStep own (record { literals = literals; hints = owns }) → is ≡ true) → is ≡ nat_lt 0 (length hints)
step_test count own vars ids hints literals owns is at room few clause are to from =
    let same = owns_length count ids hints owns are in
    elim (cases_lt 0 (length hints)) [
      | inl some ↦
          let before : All (λ h. (0 < h) × (h < own)) owns = λ k d lt. let h = owns_before count ids hints owns are k d lt in (h.0, let lt_end = h.1 in omega (arith, at, lt_end)) in
          let within : All (λ (l : Literal). l.var ≤ 2147483647) literals = λ k d lt. let le = clause.within k d lt in omega (arith, le, few) in
          let step : IsStep own (record { literals = literals; hints = owns }) = record {
            numbered = room;
            clause = record { ascending = clause.ascending; within = within };
            hinted = omega (arith, some, same);
            before = before;
          } in
          from step ∙ sym (lt-ltb 0 (length hints) some)
      | inr none ↦ elim (cases_Bool is) [
        | inl holds_is ↦ let hinted = (to holds_is).hinted in absurd (omega (arith, none, same, hinted))
        | inr fails_is ↦ fails_is ∙ sym (le-ltb 0 (length hints) none)
      ]
    ]

-- the last id, by its place
pub last_at : (n : ℕ) (ids : List ℕ) → last_id n ids ≡ get_or (n ∷ ids) (length ids) 0
last_at n [] = refl
last_at n (id ∷ ids) = last_at id ids

-- a step more is kept
pub kept_step_push : (count : ℕ) (before : List ℕ) (said : List StepText) (steps : List Step) (s : StepText) (one : Step) → AreStepsKept count before said steps → IsStepKept count (before ++ ids_of said) s one → AreStepsKept count before (said ++ s ∷ []) (steps ++ one ∷ [])
kept_step_push count before [] [] s one are is = (subst (λ b. IsStepKept count b s one) (append-nil before) is, tt)
kept_step_push count before [] (t ∷ ts) s one are is = absurd are
kept_step_push count before (x ∷ xs) [] s one are is = absurd are
kept_step_push count before (x ∷ xs) (t ∷ ts) s one are is =
    (are.0, kept_step_push count (before ++ x.id ∷ []) xs ts s one are.1 (subst (λ b. IsStepKept count b s one) (sym (append_assoc before (x.id ∷ []) (ids_of xs))) is))

-- no step of a list in order is empty but that of an empty one
first_of_some : (l : Literal) (ls : List Literal) → Contains (l ∷ ls) l
first_of_some l ls = (0, omega arith, refl)

never_has : (l : Literal) → Contains [] l → ⊥
never_has l has = let lt = has.1 in absurd (omega (arith, lt))

pub as_empty : (literals ordered : List Literal) → AreInOrder literals ordered → (length ordered == 0) ≡ (length literals == 0)
as_empty [] [] h = refl
as_empty [] (m ∷ ms) h = absurd (never_has m ((h.same m).1 (first_of_some m ms)))
as_empty (l ∷ ls) [] h = absurd (never_has l ((h.same l).0 (first_of_some l ls)))
as_empty (l ∷ ls) (m ∷ ms) h = not_zero (length ms) ∙ sym (not_zero (length ls)) where
  not_zero : (n : ℕ) → (suc n == 0) ≡ false
  not_zero n = ne_eqb (suc n) 0 (λ e. omega (arith, e))

-- where nothing is over so far
parts_false : (a b c : Bool) → (a || b) ≡ false → (a || (b || (c || false))) ≡ c
parts_false true b c h = let clash : true ≡ false = h in absurd (cc)
parts_false false true c h = let clash : true ≡ false = h in absurd (cc)
parts_false false false true h = refl
parts_false false false false h = refl

abbrev is_empty_step : StepText → Bool
is_empty_step step = length step.literals == 0

pub over_push : (text : ProofText) (s : StepText) → is_over text ≡ false → is_over (record text { steps = text.steps ++ s ∷ [] }) ≡ is_empty_step s
over_push text s on =
    ap (λ t. is_some text.ill || t) (list_any-append is_empty_step text.steps (s ∷ []))
    ∙ parts_false (is_some text.ill) (list_any is_empty_step text.steps) (is_empty_step s) on

pub ids_push : (steps : List StepText) (s : StepText) → ids_of (steps ++ s ∷ []) ≡ ids_of steps ++ s.id ∷ []
ids_push [] s = refl
ids_push (x ∷ xs) s = ap (λ ids. x.id ∷ ids) (ids_push xs s)

pub step_kept : (formula : Formula) (old new : LratProof) (text : ProofText) (s : StepText) (one : Step) → IsPushed formula old new one s.id → KeepsSoFar formula old false text → AreInOrder s.literals one.literals → AreOwnIds (length formula.clauses) old.ids.items s.hints one.hints → KeepsSoFar formula new (length one.literals == 0) (record text { steps = text.steps ++ s ∷ [] })
step_kept formula old new text s one pushed so_far literals hints =
    let keeps = so_far.0 in
    let kept : IsStepKept (length formula.clauses) (ids_of text.steps) s one = record {
      literals = literals;
      hints = subst (λ ids. AreOwnIds (length formula.clauses) ids s.hints one.hints) keeps.ids hints;
    } in (
      record {
        steps = subst (AreStepsKept (length formula.clauses) [] (text.steps ++ s ∷ [])) (sym (ap (λ (log : StepList). log.steps) pushed.steps)) (kept_step_push (length formula.clauses) [] text.steps old.steps.steps s one keeps.steps kept);
        ids = pushed.ids ∙ ap (λ ids. ids ++ s.id ∷ []) keeps.ids ∙ sym (ids_push text.steps s);
        ill = pushed.same ∙ keeps.ill;
      },
      over_push text s so_far.1 ∙ sym (as_empty s.literals one.literals literals),
    )

-- an ill step is not kept
pub ill_kept : (formula : Formula) (old new : LratProof) (text : ProofText) (id : ℕ) → KeepsSoFar formula old false text → new.steps ≡ old.steps → new.ids.items ≡ old.ids.items → new.ill ≡ Some id → KeepsSoFar formula new true (record text { ill = Some id })
ill_kept formula old new text id so_far steps ids ill = (
  record {
    steps = subst (λ (log : StepList). AreStepsKept (length formula.clauses) [] text.steps log.steps) (sym steps) so_far.0.steps;
    ids = ids ∙ so_far.0.ids;
    ill = ill;
  },
  refl,
)

-- how a text goes on with a step
next_is : (formula : Formula) (text : ProofText) (s : StepText) (last : ℕ) (seen : List ℕ) → last ≡ last_id (length formula.clauses) seen → seen ≡ ids_of text.steps → with_step formula text s ≡ cond (nat_lt last s.id) (Some (put_step formula text s)) None
next_is formula text s last seen at same = ap (λ n. let o : Option ProofText = cond (nat_lt n s.id) (Some (put_step formula text s)) None in o) (sym (at ∙ ap (last_id (length formula.clauses)) same))

pub step_next : (formula : Formula) (text : ProofText) (s : StepText) (last : ℕ) (seen again : List ℕ) (may : Bool) → last ≡ last_id (length formula.clauses) seen → seen ≡ ids_of text.steps → again ≡ ids_of text.steps → last < s.id → may ≡ may_pass formula again s → with_step formula text s ≡ Some (cond may (record text { steps = text.steps ++ s ∷ [] }) (record text { ill = Some s.id }))
step_next formula text s last seen again may at same same_again above is =
    next_is formula text s last seen at same
    ∙ ap (λ t. let o : Option ProofText = cond t (Some (put_step formula text s)) None in o) (lt-ltb last s.id above)
    ∙ ap (λ t. let o : Option ProofText = Some (cond t (record text { steps = text.steps ++ s ∷ [] }) (record text { ill = Some s.id })) in o) (sym (is ∙ ap (λ ids. may_pass formula ids s) same_again))

pub no_step_next : (formula : Formula) (text : ProofText) (s : StepText) (last : ℕ) (seen : List ℕ) → last ≡ last_id (length formula.clauses) seen → seen ≡ ids_of text.steps → s.id ≤ last → with_step formula text s ≡ None
no_step_next formula text s last seen at same le =
    next_is formula text s last seen at same
    ∙ ap (λ t. let o : Option ProofText = cond t (Some (put_step formula text s)) None in o) (le-ltb last s.id le)

-- the lines behind what was read
pub lines_over : (formula : Formula) (text : ProofText) (lines : List Line) → is_over text ≡ true → read_steps formula text lines ≡ Ok text
lines_over formula text [] over = refl
lines_over formula text (line ∷ lines) over = ap (λ t. let r : Result ProofText ℕ = cond t (Ok text) (behind_line line.0 (with_line formula text (line_of line.1)) (λ next. read_steps formula next lines)) in r) over

pub lines_on : (formula : Formula) (text : ProofText) (line : Line) (lines : List Line) (next : Option ProofText) → is_over text ≡ false → with_line formula text (line_of line.1) ≡ next → read_steps formula text (line ∷ lines) ≡ behind_line line.0 next (λ text. read_steps formula text lines)
lines_on formula text line lines next on is =
    ap (λ t. let r : Result ProofText ℕ = cond t (Ok text) (behind_line line.0 (with_line formula text (line_of line.1)) (λ next. read_steps formula next lines)) in r) on
    ∙ ap (λ o. behind_line line.0 o (λ text. read_steps formula text lines)) is

-- ids of a text behind so many clauses are above 0
no_zero : (count : ℕ) (ids : List ℕ) → IsStrictlyIncreasing (count ∷ ids) → All (λ i. (i == 0) ≡ false) ids
no_zero count ids up k d lt =
    let above : count < get_or ids k d = AllPairs-from_increasing (count ∷ ids) up 0 (suc k) d (omega arith) (omega (arith, lt)) in
    grind (arith, nat_tests)

pub zero_names_none : (count : ℕ) (ids : List ℕ) (number : ℤ) (n : ℕ) → IsStrictlyIncreasing (count ∷ ids) → number ≡ pos n → n ≡ 0 → names_clause count ids number ≡ false
zero_names_none count ids number n up is none =
    ap (names_clause count ids) (is ∙ ap (λ m. pos m) none) ∙ list_any_none (λ i. i == 0) ids (no_zero count ids up)

-- what a search among ids finds
pub id_found : (count place own id : ℕ) (ids : List ℕ) (number : ℤ) (r : Result ℕ ℕ) → IsStrictlyIncreasing (count ∷ ids) → IsBinarySearchResult (λ y. nat_cmp y id) ids r → r ≡ Ok place → number ≡ pos id → own ≡ count + 1 + place → IsOwnId count ids number own
id_found count place own id ids number r up position ok is at =
    let found = subst (λ q. MatchResult q (λ i. (i < length ids) × (get_or ids i 0 ≡ id)) (λ i. (i ≤ length ids) × ((k : ℕ) → k < i → get_or ids k 0 < id) × ((k : ℕ) → i ≤ k → k < length ids → id < get_or ids k 0))) ok (searched ids id r position (ascend_behind count ids up)) in
    let place_is : own - (count + 1) ≡ place = omega (arith, at) in
    inr (omega (arith, at), (id, is, ap (slice_get ids) place_is ∙ slice_get-get_or ids place 0 found.0 ∙ ap Some found.1))

pub id_not_found : (count place id : ℕ) (ids : List ℕ) (number : ℤ) (r : Result ℕ ℕ) → IsStrictlyIncreasing (count ∷ ids) → IsBinarySearchResult (λ y. nat_cmp y id) ids r → r ≡ Err place → number ≡ pos id → count < id → names_clause count ids number ≡ false
id_not_found count place id ids number r up position err is above =
    let lost = subst (λ q. MatchResult q (λ i. (i < length ids) × (get_or ids i 0 ≡ id)) (λ i. (i ≤ length ids) × ((k : ℕ) → k < i → get_or ids k 0 < id) × ((k : ℕ) → i ≤ k → k < length ids → id < get_or ids k 0))) err (searched ids id r position (ascend_behind count ids up)) in
    let none : All (λ i. (i == id) ≡ false) ids = λ k d lt.
    let same : get_or ids k d ≡ get_or ids k 0 = get_or_same ids k d 0 lt in
    elim (cases_lt k place) [
      | inl before ↦ let less = lost.1 k before in ne_eqb (get_or ids k d) id (λ e. omega (arith, same, less, e))
      | inr behind ↦ let more = lost.2 k behind lt in ne_eqb (get_or ids k d) id (λ e. omega (arith, same, more, e))
    ]
    in
    ap (names_clause count ids) is
    ∙ ap (λ t. (nat_lt 0 id && t) || list_any (λ i. i == id) ids) (lt-leb id count above)
    ∙ ap (λ t. (nat_lt 0 id && false) || t) (list_any_none (λ i. i == id) ids none)
    ∙ neither_one (nat_lt 0 id) where
      neither_one : (a : Bool) → ((a && false) || false) ≡ false
      neither_one true = refl
      neither_one false = refl

      get_or_same : (xs : List ℕ) (k d e : ℕ) → k < length xs → get_or xs k d ≡ get_or xs k e
      get_or_same [] k d e lt = absurd (omega (arith, lt))
      get_or_same (x ∷ xs) zero d e lt = refl
      get_or_same (x ∷ xs) (suc k) d e lt = get_or_same xs k d e (omega (arith, lt))

-- the number at a place
abbrev pub number_at : List ℤ → ℕ → ℤ
number_at numbers k = get_or numbers k (pos 0)

-- a hint more was found
pub hint_more : (count : ℕ) (ids : List ℕ) (numbers : List ℤ) (owns more : List ℕ) (k own : ℕ) → k < length numbers → AreOwnIds count ids (take k numbers) owns → IsOwnId count ids (number_at numbers k) own → more ≡ owns ++ own ∷ [] → AreOwnIds count ids (take (k + 1) numbers) more
hint_more count ids numbers owns more k own lt are is pushed =
    subst (AreOwnIds count ids (take (k + 1) numbers)) (sym pushed) (subst (λ zs. AreOwnIds count ids zs (owns ++ own ∷ [])) (sym (take_more numbers k (pos 0) lt)) (owns_push count ids (take k numbers) owns (number_at numbers k) own are is))

pub names_more : (count : ℕ) (ids : List ℕ) (numbers : List ℤ) (k : ℕ) → k < length numbers → list_all (names_clause count ids) (take k numbers) ≡ true → names_clause count ids (number_at numbers k) ≡ true → list_all (names_clause count ids) (take (k + 1) numbers) ≡ true
names_more count ids numbers k lt all is =
    list_all_more (names_clause count ids) numbers k (pos 0) lt ∙ ap (λ t. t && names_clause count ids (number_at numbers k)) all ∙ is

-- a literal more was found, or none
pub literals_more : (numbers : List ℤ) (literals more : List Literal) (k : ℕ) (l : Literal) → k < length numbers → literals ≡ map literal_of (take k numbers) → l ≡ literal_of (number_at numbers k) → more ≡ literals ++ l ∷ [] → more ≡ map literal_of (take (k + 1) numbers)
literals_more numbers literals more k l lt found is pushed =
    pushed
    ∙ ap (λ ls. ls ++ l ∷ []) found
    ∙ ap (λ m. map literal_of (take k numbers) ++ m ∷ []) is
    ∙ map_push (take k numbers) (number_at numbers k)
    ∙ ap (map literal_of) (sym (take_more numbers k (pos 0) lt)) where
      map_push : (zs : List ℤ) (z : ℤ) → map literal_of zs ++ literal_of z ∷ [] ≡ map literal_of (zs ++ z ∷ [])
      map_push [] z = refl
      map_push (y ∷ ys) z = ap (λ ls. literal_of y ∷ ls) (map_push ys z)

pub positive_more : (literals more : List Literal) (l : Literal) → All (λ m. 0 < m.var) literals → 0 < l.var → more ≡ literals ++ l ∷ [] → All (λ m. 0 < m.var) more
positive_more literals more l all up pushed = subst (All (λ (m : Literal). 0 < m.var)) (sym pushed) (All-push (λ (m : Literal). 0 < m.var) literals l all up)

and_false : (a : Bool) → (a && false) ≡ false
and_false true = refl
and_false false = refl

pub no_literal_at : (numbers : List ℤ) (k vars : ℕ) → k < length numbers → (number_at numbers k ≡ pos 0) ⊎ (2147483647 < (literal_of (number_at numbers k)).var) → vars < 2 ^ 31 → is_clause_over vars (map literal_of numbers) ≡ false
no_literal_at numbers k vars lt none few =
    no_clause_at vars (map literal_of numbers) (list_all-map (is_within vars) literal_of numbers ∙ list_all_at (λ z. is_within vars (literal_of z)) numbers k (pos 0) lt (outside none)) where
      outside : (number_at numbers k ≡ pos 0) ⊎ (2147483647 < (literal_of (number_at numbers k)).var) → is_within vars (literal_of (number_at numbers k)) ≡ false
      outside (inl is) = ap (λ z. is_within vars (literal_of z)) is
      outside (inr high) = ap (λ t. nat_lt 0 (literal_of (number_at numbers k)).var && t) (lt-leb (literal_of (number_at numbers k)).var vars (omega (arith, high, few))) ∙ and_false (nat_lt 0 (literal_of (number_at numbers k)).var)

-- the last id that was seen
pub last_seen : (count n last : ℕ) (seen : List ℕ) → last ≡ get_or (n ∷ seen) (length seen) 0 → n ≡ count → last ≡ last_id count seen
last_seen count n last seen is counted = is ∙ ap (λ m. get_or (m ∷ seen) (length seen) 0) counted ∙ sym (last_at count seen)

-- a step may pass where its literals are a clause, its hints name clauses, and it is a step
pub all_may : (formula : Formula) (ids : List ℕ) (own : ℕ) (said : List Literal) (hints : List ℤ) (vars count : ℕ) (is_over are_named is : Bool) (asked_literals : List Literal) (asked_hints : List ℕ) (literals : List Literal) (owns : List ℕ)
    → vars ≡ formula.vars → count ≡ length formula.clauses → is_over ≡ true → are_named ≡ true → is_over ≡ is_clause_over vars said → are_named ≡ list_all (names_clause count ids) hints
    → own ≡ length formula.clauses + 1 + length ids → own < 2 ^ 32 → formula.vars < 2 ^ 31 → IsClause vars literals → AreOwnIds count ids hints owns
    → asked_literals ≡ literals → asked_hints ≡ owns
    → (is ≡ true → IsStep own (record { literals = asked_literals; hints = asked_hints })) → (IsStep own (record { literals = asked_literals; hints = asked_hints }) → is ≡ true)
    → is ≡ may_pass formula ids (record { id = own; literals = said; hints = hints })
all_may formula ids own said hints vars count is_over are_named is asked_literals asked_hints literals owns same_vars same_count over named clause names at room few is_clause are same_literals same_hints to from =
    let over_is : is_clause_over formula.vars said ≡ true = ap (λ n. is_clause_over n said) (sym same_vars) ∙ sym clause ∙ over in
    let names_is : list_all (names_clause (length formula.clauses) ids) hints ≡ true = ap (λ n. list_all (names_clause n ids) hints) (sym same_count) ∙ sym names ∙ named in
    let asked : Step = record { literals = asked_literals; hints = asked_hints } in
    let made : Step = record { literals = literals; hints = owns } in
    let same : asked ≡ made = ap (λ ls. let s : Step = record { literals = ls; hints = asked_hints } in s) same_literals ∙ ap (λ hs. let s : Step = record { literals = literals; hints = hs } in s) same_hints in
    step_test (length formula.clauses) own formula.vars ids hints literals owns is at room few
    (subst (λ n. IsClause n literals) same_vars is_clause) (subst (λ n. AreOwnIds n ids hints owns) same_count are)
    (λ h. subst (IsStep own) same (to h)) (λ h. from (subst (IsStep own) (sym same) h))
    ∙ sym (ap (λ t. t && (list_all (names_clause (length formula.clauses) ids) hints && nat_lt 0 (length hints))) over_is ∙ ap (λ t. t && nat_lt 0 (length hints)) names_is)
