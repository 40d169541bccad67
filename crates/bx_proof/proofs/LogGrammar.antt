-- The texts of logs as a grammar by lines: its state is the id of the line before, and none at the start. So
-- a reader that stops where no line goes on has found the first bad line.
use Rattle.std.proofs.Common.{◌≡◌, ℕ, suc, ◌+◌, ◌<◌, ◌≤◌, ◌^◌, List, [], ◌∷◌, ◌++◌, length, Option, Some, None, refl, sym, ◌∙◌, ap, subst, arith, append_assoc}
use Rattle.std.proofs.lemmas.Fmt.{decimal_nonempty}
use Rattle.std.proofs.lemmas.List.{append-nil}
use Rattle.std.proofs.lemmas.List.Elements.{All-from_recursion}
use Rattle.std.specs.Prelude.{⊤, decimal}
use Rattle.bx_cnf.specs.Literals.{literal_text}
use Rattle.bx_lines.specs.Lines.{IsLine, ended, text_of, IsFirstBadLine}
use Rattle.bx_lines.specs.Grammars.{Grammar, Lead, IsText, CanEnd, IsLineGrammar}
use Rattle.bx_lines.specs.Decimals.{IsNumberAt}
use Rattle.bx_lines.proofs.BadLines.{stuck_at}
use Rattle.bx_lines.proofs.Numbers.{one_number}
use Rattle.bx_proof.specs.Steps.{Step, IsStep, AreSteps}
use Rattle.bx_proof.specs.Texts.{list_text, step_line, step_lines, IsLogText}
use Rattle.bx_proof.specs.Readings.{IsStepAt}
use Rattle.bx_proof.proofs.StepLines.{number_of_line, step_line_is_line, length-step_lines}

-- an id may follow on a line: any at the start, else the next
abbrev Follows : Option ℕ → ℕ → Type 0
Follows None id = ⊤
Follows (Some before) id = id ≡ before + 1

-- a line of a step leads to its id
pub record GoesTo (from : Option ℕ) (line : List ℕ) (to : Option ℕ) : Type 0 where
  pub id : ℕ
  pub step : Step
  pub is : IsStep id step
  pub spelled : line ≡ step_line id step
  pub follows : Follows from id
  pub reached : to ≡ Some id

-- a text may end behind a line
abbrev Ends : Option ℕ → Type 0
Ends None = ⊥
Ends (Some id) = ⊤

abbrev pub log_grammar : Grammar (Option ℕ)
log_grammar = record { start = None; goes = GoesTo; ends = Ends }

-- one line has one id
one_id : (line : List ℕ) (a b : Option ℕ) (from : Option ℕ) → GoesTo from line a → GoesTo from line b → a ≡ b
one_id line a b from x y =
    let number = λ (g_id : ℕ) (g_step : Step) (e : line ≡ step_line g_id g_step). number_of_line line g_id g_step [] (e ∙ sym (append-nil (step_line g_id g_step))) in
    let same = one_number line x.id y.id (list_text literal_text x.step.literals ++ (list_text decimal x.step.hints ++ [])) (list_text literal_text y.step.literals ++ (list_text decimal y.step.hints ++ [])) (omega (arith, x.is.numbered)) (omega (arith, y.is.numbered)) (number x.id x.step x.spelled) (number y.id y.step y.spelled) in
    x.reached ∙ ap Some same.0 ∙ sym y.reached

-- some step, of the least id that a step may have
some_step : Step
some_step = record { literals = []; hints = 1 ∷ [] }

some_step_is : IsStep 2 some_step
unfolding some_step
some_step_is = record {
  numbered = omega arith;
  clause = record { ascending = tt; within = All-from_recursion (λ l. l.var ≤ 2147483647) [] tt };
  hinted = omega arith;
  before = All-from_recursion (λ h. (0 < h) × (h < 2)) (1 ∷ []) ((omega arith, omega arith), tt);
}

pub log_is_line_grammar : IsLineGrammar log_grammar
log_is_line_grammar = record {
  lines = λ from line to g. subst IsLine (sym g.spelled) (step_line_is_line g.id g.step g.is);
  one = λ from line a b x y. one_id line a b from x y;
  start = (step_line 2 some_step ∷ [], Some 2, (Some 2, record { id = 2; step = some_step; is = some_step_is; spelled = refl; follows = tt; reached = refl }, refl), tt);
  each = λ from line to g. subst (CanEnd log_grammar) (sym g.reached) ([], Some g.id, refl, tt);
}

-- from the steps to the lines that lead on
pub steps_lead : (before : ℕ) (steps : List Step) → AreSteps (before + 1) steps → Lead GoesTo (Some before) (step_lines (before + 1) steps) (Some (before + length steps))
steps_lead before [] are = let here : before ≡ before + 0 = omega arith in ap Some here
steps_lead before (s ∷ ss) are =
    let inner = steps_lead (before + 1) ss are.1 in
    let there : before + 1 + length ss ≡ before + suc (length ss) = omega arith in
    (Some (before + 1), record { id = before + 1; step = s; is = are.0; spelled = refl; follows = refl; reached = refl }, subst (λ n. Lead GoesTo (Some (before + 1)) (step_lines (before + 1 + 1) ss) (Some n)) there inner)

pub log_leads : (first : ℕ) (s : Step) (ss : List Step) → AreSteps first (s ∷ ss) → Lead GoesTo None (step_lines first (s ∷ ss)) (Some (first + length ss))
log_leads first s ss are = (Some first, record { id = first; step = s; is = are.0; spelled = refl; follows = tt; reached = refl }, steps_lead first ss are.1)

-- and back
lead_steps : (before : ℕ) (from to : Option ℕ) (lines : List (List ℕ)) → from ≡ Some before → Lead GoesTo from lines to → (steps : List Step) × AreSteps (before + 1) steps × (lines ≡ step_lines (before + 1) steps)
lead_steps before from to [] at lead = ([], tt, refl)
lead_steps before from to (l ∷ ls) at lead =
    let (mid, goes, more) = lead in
    let id : goes.id ≡ before + 1 = subst (λ f. Follows f goes.id) at goes.follows in
    let inner = lead_steps (before + 1) mid to ls (goes.reached ∙ ap Some id) more in
    (goes.step ∷ inner.0, (subst (λ n. IsStep n goes.step) id goes.is, inner.1), ap (λ x. x ∷ ls) (goes.spelled ∙ ap (λ n. step_line n goes.step) id) ∙ ap (λ xs. step_line (before + 1) goes.step ∷ xs) inner.2)

-- the texts of the grammar are those of logs

pub text_from_log : (bytes : List ℕ) → IsLogText bytes → IsText log_grammar bytes
text_from_log bytes (log, is) = by_steps log.steps is.some is.steps is.spelled where
  by_steps : (steps : List Step) → 0 < length steps → AreSteps log.first steps → bytes ≡ text_of (step_lines log.first steps) → IsText log_grammar bytes
  by_steps [] some are e = absurd (omega arith)
  by_steps (s ∷ ss) some are e = (Some (log.first + length ss), record { lines = step_lines log.first (s ∷ ss); lead = log_leads log.first s ss are; last = tt; spelled = e })

pub log_from_text : (bytes : List ℕ) → IsText log_grammar bytes → IsLogText bytes
log_from_text bytes (end, is) = by_lines is.lines is.lead is.spelled where
  by_lines : (lines : List (List ℕ)) → Lead GoesTo None lines end → bytes ≡ text_of lines → IsLogText bytes
  by_lines [] lead e = absurd (subst Ends (sym lead) is.last)
  by_lines (l ∷ ls) lead e =
      let (mid, goes, more) = lead in
      let (steps, are, lines) = lead_steps goes.id mid end ls goes.reached more in (
        record { first = goes.id; steps = goes.step ∷ steps },
        record {
          some = omega arith;
          steps = (goes.is, are);
          spelled = e ∙ ap (λ x. text_of (x ∷ ls)) goes.spelled ∙ ap (λ xs. text_of (step_line goes.id goes.step ∷ xs)) lines;
        },
      )

first_bad : (bytes : List ℕ) (k : ℕ) → IsFirstBadLine (IsText log_grammar) bytes k → IsFirstBadLine IsLogText bytes k
first_bad bytes k is = record {
  bad = λ begun. is.bad (begun.0, text_from_log begun.0 begun.1, begun.2);
  before = λ j lt. let begun = is.before j lt in (begun.0, log_from_text begun.0 begun.1, begun.2);
}

-- where a reader stops

-- a line at the front of the rest
goes_front : (rest line behind : List ℕ) (id : ℕ) (s : Step) → rest ≡ text_of (line ∷ []) ++ behind → line ≡ step_line id s → rest ≡ step_line id s ++ 10 ∷ behind
goes_front rest line behind id s split spelled =
    split ∙ ap (λ bs. bs ++ behind) (append-nil (ended line)) ∙ append_assoc line (10 ∷ []) behind ∙ ap (λ bs. bs ++ 10 ∷ behind) spelled

pub bad_start : (bytes : List ℕ) → ((n : ℕ) (rest : List ℕ) → n ≤ 4294967295 → IsNumberAt bytes n rest → ⊥) → IsFirstBadLine IsLogText bytes 1
bad_start bytes none = first_bad bytes 1 (stuck_at log_grammar log_is_line_grammar [] None bytes bytes refl refl (record {
  no_line = λ line to behind goes split. none goes.id _ (omega (arith, goes.is.numbered)) (number_of_line bytes goes.id goes.step (10 ∷ behind) (goes_front bytes line behind goes.id goes.step split goes.spelled));
  no_end = λ empty ends. ends;
}))

-- behind the lines of these steps no line of the next id stands
pub bad_line : (first : ℕ) (steps : List Step) (bytes rest behind : List ℕ) → first < 2 ^ 32 → AreSteps first steps → bytes ≡ text_of (step_lines first steps) ++ rest → IsNumberAt bytes first behind → (rest ≡ [] → steps ≡ []) → ((s : Step) (r : List ℕ) → IsStepAt rest (first + length steps) s r → ⊥) → IsFirstBadLine IsLogText bytes (length steps + 1)
bad_line first [] bytes rest behind small are split number at_end none =
    let here : first + 0 ≡ first = omega arith in
    first_bad bytes 1 (stuck_at log_grammar log_is_line_grammar [] None rest bytes refl split (record {
      no_line = λ line to r goes at.
          let front = goes_front rest line r goes.id goes.step at goes.spelled in
          let same = one_number bytes first goes.id behind _ (omega (arith, small)) (omega (arith, goes.is.numbered)) number (number_of_line bytes goes.id goes.step (10 ∷ r) (split ∙ front)) in
          let id : goes.id ≡ first + 0 = sym same.0 ∙ sym here in
          none goes.step r (record { step = subst (λ n. IsStep n goes.step) id goes.is; spelled = front ∙ ap (λ n. step_line n goes.step ++ 10 ∷ r) id });
      no_end = λ empty ends. ends;
    }))
bad_line first (s ∷ ss) bytes rest behind small are split number at_end none =
    let stuck = first_bad bytes (suc (length (step_lines first (s ∷ ss)))) (stuck_at log_grammar log_is_line_grammar (step_lines first (s ∷ ss)) (Some (first + length ss)) rest bytes (log_leads first s ss are) split (record {
      no_line = λ line to r goes at.
          let front = goes_front rest line r goes.id goes.step at goes.spelled in
          let id : goes.id ≡ first + suc (length ss) = omega (arith, goes.follows) in
          none goes.step r (record { step = subst (λ n. IsStep n goes.step) id goes.is; spelled = front ∙ ap (λ n. step_line n goes.step ++ 10 ∷ r) id });
      no_end = λ empty ends. (let nothing : s ∷ ss ≡ [] = at_end empty in cc);
    })) in
    let count : suc (length (step_lines first (s ∷ ss))) ≡ length (s ∷ ss) + 1 = omega (arith, length-step_lines first (s ∷ ss)) in
    subst (IsFirstBadLine IsLogText bytes) count stuck

-- the lines of steps, and one more
pub text_push : (first : ℕ) (steps : List Step) (s : Step) (rest : List ℕ) → text_of (step_lines first (steps ++ s ∷ [])) ++ rest ≡ text_of (step_lines first steps) ++ (step_line (first + length steps) s ++ 10 ∷ rest)
text_push first [] s rest =
    let here : first ≡ first + 0 = omega arith in
    ap (λ bs. bs ++ rest) (append-nil (ended (step_line first s))) ∙ append_assoc (step_line first s) (10 ∷ []) rest ∙ ap (λ n. step_line n s ++ 10 ∷ rest) here
text_push first (t ∷ ts) s rest =
    let there : first + 1 + length ts ≡ first + suc (length ts) = omega arith in
    append_assoc (ended (step_line first t)) (text_of (step_lines (first + 1) (ts ++ s ∷ []))) rest
    ∙ ap (λ bs. ended (step_line first t) ++ bs) (text_push (first + 1) ts s rest ∙ ap (λ n. text_of (step_lines (first + 1) ts) ++ (step_line n s ++ 10 ∷ rest)) there)
    ∙ sym (append_assoc (ended (step_line first t)) (text_of (step_lines (first + 1) ts)) (step_line (first + suc (length ts)) s ++ 10 ∷ rest))

-- a text that begins with a number has a line
pub log_some : (first : ℕ) (steps : List Step) (bytes behind : List ℕ) → first < 2 ^ 32 → IsNumberAt bytes first behind → bytes ≡ text_of (step_lines first steps) → 0 < length steps
log_some first [] bytes behind small number e = absurd (clash (decimal first) (decimal_nonempty first (omega (arith, small))) (sym number.spelled ∙ e)) where
  clash : (ds : List ℕ) → 0 < length ds → ds ++ behind ≡ [] → ⊥
  clash [] some e = omega arith
  clash (d ∷ ds) some e = cc
log_some first (s ∷ ss) bytes behind small number e = omega arith
