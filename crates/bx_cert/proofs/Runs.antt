-- The steps of a section: cut off behind as many lines, they are read as a log, and where they are none, it is
-- told which line is bad.
use Rattle.std.proofs.Common.{◌≡◌, ℕ, zero, suc, ◌+◌, ◌-◌, ◌<◌, ◌≤◌, ◌^◌, List, [], ◌∷◌, ◌++◌, length, Option, Some, None, Result, Err, refl, sym, ◌∙◌, ap, subst, inl, inr, arith, append_assoc, length-append}
use Rattle.std.proofs.lemmas.Bool.{cases_order}
use Rattle.std.proofs.lemmas.List.{append-nil}
use Rattle.std.specs.List.{AllByRecursion}
use Rattle.bx_grid.specs.declared.ratio.Ratio.{Ratio}
use Rattle.bx_lines.specs.Lines.{IsLine, ended, text_of, first_lines, IsFirstBadLine}
use Rattle.bx_lines.specs.Grammars.{Lead, IsText, IsStuck}
use Rattle.bx_lines.proofs.BadLines.{one_state, no_bad_line}
use Rattle.bx_lines.proofs.FirstLines.{first_lines_line, no_first_lines}
use Rattle.bx_lines.proofs.Numbers.{one_number}
use Rattle.bx_proof.specs.Steps.{Step, StepList, IsStep, AreSteps}
use Rattle.bx_proof.specs.Texts.{step_line, step_lines, IsTextOf, IsLogText}
use Rattle.bx_proof.proofs.Logs.{steps_fit}
use Rattle.bx_proof.proofs.StepLines.{number_of_line, step_line_is_line, length-step_lines}
use Rattle.bx_proof.proofs.LogGrammar.{GoesTo, log_grammar, log_is_line_grammar, log_leads, text_from_log, log_from_text}
use Rattle.bx_proof.specs.declared.fault.StepFault.{StepFault}
use Rattle.bx_proof.specs.declared.fault.StepFault.TheVariants.{BadStep, NoMemory}
use Rattle.bx_cert.specs.declared.fault.CertFault.{CertFault}
use Rattle.bx_cert.specs.Grammar.{Draft, State, at_first_step, at_step, Goes, cert_grammar, Stops}
use Rattle.bx_cert.specs.Readings.{HasIds, IsRunAt, StopsAt, FitsBehind, fault_behind}
use Rattle.bx_cert.proofs.CertGrammar.{steps_more}
use Rattle.bx_cert.proofs.Leading.{first_steps_lead, same_lines}
use Rattle.bx_cert.proofs.Stopping.{stop_here, stop_behind, lines_fit}
use Rattle.bx_lines.proofs.Stuck.{no_bytes, front_split, are_lines, IsStuckBehind, stuck_behind}

-- the id that bytes begin with is that of their first step
first_id : (bytes : List ℕ) (log : StepList) (more : List ℕ) (count : ℕ) → 0 < length log.steps → AreSteps log.first log.steps → bytes ≡ text_of (step_lines log.first log.steps) ++ more → HasIds bytes count → log.first + count ≤ 2 ^ 32
first_id bytes log more count some are split has = by_steps log.steps some are split where
  by_steps : (steps : List Step) → 0 < length steps → AreSteps log.first steps → bytes ≡ text_of (step_lines log.first steps) ++ more → log.first + count ≤ 2 ^ 32
  by_steps [] some are split = absurd (omega (arith, some))
  by_steps (s ∷ ss) some are split =
      let tail = text_of (step_lines (log.first + 1) ss) ++ more in
      let line : bytes ≡ step_line log.first s ++ 10 ∷ tail = split ∙ append_assoc (ended (step_line log.first s)) (text_of (step_lines (log.first + 1) ss)) more ∙ append_assoc (step_line log.first s) (10 ∷ []) tail in
      let same = one_number bytes has.0 log.first has.1 _ (omega (arith, has.3)) (omega (arith, are.0.numbered)) has.2 (number_of_line bytes log.first s (10 ∷ tail) line) in
      omega (arith, same.0, has.3)

-- the lines of a log are lines
log_lines : (log : StepList) → 0 < length log.steps → AreSteps log.first log.steps → AllByRecursion IsLine (step_lines log.first log.steps)
log_lines log some are = by_steps log.steps some are where
  by_steps : (steps : List Step) → 0 < length steps → AreSteps log.first steps → AllByRecursion IsLine (step_lines log.first steps)
  by_steps [] some are = absurd (omega (arith, some))
  by_steps (s ∷ ss) some are = are_lines log_grammar log_is_line_grammar (step_lines log.first (s ∷ ss)) None (Some (log.first + length ss)) (log_leads log.first s ss are)

-- as many steps as were wanted
pub run_here : (text front rest : List ℕ) (count : ℕ) (log : StepList) → front ≡ first_lines count text → text ≡ front ++ rest → IsTextOf log front → length log.steps ≡ count → IsRunAt text count log rest
run_here text front rest count log cut whole is size =
    let fit = steps_fit log.first log.steps is.steps is.some in
    record { whole = size; steps = is.steps; fits = omega (arith, fit.1, size); spelled = whole ∙ ap (λ bs. bs ++ rest) is.spelled }

-- behind some steps, fewer than are wanted, no step goes on
behind_stop : (d : Draft) (r : Ratio) (count : ℕ) (text more : List ℕ) (log : StepList) → HasIds text count → 0 < length log.steps → AreSteps log.first log.steps → length log.steps < count → text ≡ text_of (step_lines log.first log.steps) ++ more → ((s : Step) (behind : List ℕ) → IsStep (log.first + length log.steps) s → more ≡ ended (step_line (log.first + length log.steps) s) ++ behind → ⊥) → Stops (at_first_step d r count) text (length log.steps + 1)
behind_stop d r count text more log has some are lt split none =
    let fits = first_id text log more count some are split has in
    let lead = first_steps_lead log.steps d r count log.first some are (omega (arith, lt)) fits in
    let way = subst (λ s. Lead Goes (at_first_step d r count) (step_lines log.first log.steps) s) (steps_more d r count log lt) lead in
    let stuck : IsStuck cert_grammar (at_step d r count log) more = record {
      no_line = λ line to behind goes at. none goes.step behind goes.is (at ∙ ap (λ bs. bs ++ behind) (append-nil (ended line)) ∙ ap (λ l. ended l ++ behind) goes.spelled);
      no_end = λ empty ends. ends;
    } in
    let stop = stop_behind (step_lines log.first log.steps) (at_first_step d r count) (at_step d r count log) text more 1 way split (stop_here (at_step d r count log) more stuck) in
    subst (λ n. Stops (at_first_step d r count) text (n + 1)) (length-step_lines log.first log.steps) stop

-- fewer steps than are wanted stand there, and the text ends
pub run_short : (d : Draft) (r : Ratio) (text front : List ℕ) (count : ℕ) (log : StepList) → HasIds text count → front ≡ first_lines count text → IsTextOf log front → (length log.steps ≡ count → ⊥) → Stops (at_first_step d r count) text (length log.steps + 1)
run_short d r text front count log has cut is other =
    let lines = step_lines log.first log.steps in
    let size = length-step_lines log.first log.steps in
    let (more, le, split, rest) = front_split lines count text [] (log_lines log is.some is.steps) (sym cut ∙ is.spelled ∙ sym (append-nil (text_of lines))) in
    let lt : length log.steps < count = elim (cases_order (length log.steps) count) [
      | inl same ↦ absurd (other same)
      | inr o ↦ elim o [ inl lt ↦ lt | inr gt ↦ absurd (omega (arith, gt, le, size)) ]
    ] in
    let left : count - length lines ≡ suc (count - length lines - 1) = omega (arith, lt, size) in
    let nothing : more ≡ [] = no_first_lines (count - length lines - 1) more (ap (λ n. first_lines n more) (sym left) ∙ sym rest) in
    behind_stop d r count text more log has is.some is.steps lt split (λ s behind is_step at. no_bytes (step_line (log.first + length log.steps) s) behind (sym nothing ∙ at))

-- a line at the front of bytes is at the front of their first lines
front_line : (k : ℕ) (x more line behind : List ℕ) → IsLine line → 0 < k → x ≡ first_lines k more → more ≡ ended line ++ behind → (b : List ℕ) × (x ≡ ended line ++ b)
front_line zero x more line behind is some e at = absurd (omega (arith, some))
front_line (suc k) x more line behind is some e at = (first_lines k behind, e ∙ ap (first_lines (suc k)) at ∙ first_lines_line k line behind is)

-- the first bad line of a log, in the grammar of logs
log_bad : (bytes : List ℕ) (k : ℕ) → IsFirstBadLine IsLogText bytes k → IsFirstBadLine (IsText log_grammar) bytes k
log_bad bytes k is = record {
  bad = λ begun. is.bad (begun.0, log_from_text begun.0 begun.1, begun.2);
  before = λ j lt. let begun = is.before j lt in (begun.0, text_from_log begun.0 begun.1, begun.2);
}

-- no first step goes on
first_stop : (d : Draft) (r : Ratio) (count : ℕ) (text : List ℕ) → ((id : ℕ) (s : Step) (behind : List ℕ) → IsStep id s → 1 ≤ count → id + count ≤ 2 ^ 32 → text ≡ ended (step_line id s) ++ behind → ⊥) → Stops (at_first_step d r count) text 1
first_stop d r count text none = stop_here (at_first_step d r count) text (record {
  no_line = λ line to behind goes at. none goes.id goes.step behind goes.is goes.some goes.fits (at ∙ ap (λ bs. bs ++ behind) (append-nil (ended line)) ∙ ap (λ l. ended l ++ behind) goes.spelled);
  no_end = λ empty ends. ends;
})

-- no ids are left for the steps
pub run_no_ids : (d : Draft) (r : Ratio) (text : List ℕ) (count : ℕ) → (HasIds text count → ⊥) → Stops (at_first_step d r count) text 1
run_no_ids d r text count none = first_stop d r count text (λ id s behind is some fits at.
    none (id, _, number_of_line text id s (10 ∷ behind) (at ∙ append_assoc (step_line id s) (10 ∷ []) behind), fits))

ends_some : (l : List ℕ) (ls : List (List ℕ)) (from to : Option ℕ) → Lead GoesTo from (l ∷ ls) to → (id : ℕ) × (to ≡ Some id)
ends_some l [] from to lead = let (mid, goes, more) = lead in (goes.id, sym more ∙ goes.reached)
ends_some l (m ∷ ms) from to lead = let (mid, goes, more) = lead in ends_some m ms mid to more

-- lines of a log, of which there is one at least
log_of_lines : (l : List ℕ) (ls : List (List ℕ)) (state : Option ℕ) → Lead GoesTo None (l ∷ ls) state → (log : StepList) × (0 < length log.steps) × AreSteps log.first log.steps × (l ∷ ls ≡ step_lines log.first log.steps)
log_of_lines l ls state lead =
    let (id, ends) = ends_some l ls None state lead in
    let (log, is) = log_from_text (text_of (l ∷ ls)) (state, record { lines = l ∷ ls; lead = lead; last = subst log_grammar.ends (sym ends) tt; spelled = refl }) in
    (log, is.some, is.steps, same_lines (l ∷ ls) (step_lines log.first log.steps) (are_lines log_grammar log_is_line_grammar (l ∷ ls) None state lead) (log_lines log is.some is.steps) is.spelled)

-- they lead to the id of the last
last_id : (first : ℕ) (steps : List Step) (state : Option ℕ) → 0 < length steps → AreSteps first steps → Lead GoesTo None (step_lines first steps) state → (before : ℕ) × (state ≡ Some before) × (first + length steps ≡ before + 1)
last_id first [] state some are lead = absurd (omega (arith, some))
last_id first (s ∷ ss) state some are lead = (first + length ss, one_state log_grammar log_is_line_grammar (step_lines first (s ∷ ss)) None state (Some (first + length ss)) lead (log_leads first s ss are), (omega arith))

abbrev NoneBehind : Option ℕ → List ℕ → Type 0
NoneBehind state rest = (line : List ℕ) (to : Option ℕ) (behind : List ℕ) → GoesTo state line to → rest ≡ ended line ++ behind → ⊥

-- no first step stands there
bad_first : (d : Draft) (r : Ratio) (text front rest : List ℕ) (count : ℕ) → 1 ≤ count → front ≡ first_lines count text → front ≡ rest → NoneBehind None rest → Stops (at_first_step d r count) text 1
bad_first d r text front rest count some cut split none = first_stop d r count text (λ id s behind is some_count fits at.
    let b = front_line count rest text (step_line id s) behind (step_line_is_line id s is) some (sym split ∙ cut) at in
    none (step_line id s) (Some id) b.0 (record { id = id; step = s; is = is; spelled = refl; follows = tt; reached = refl }) b.1)

-- behind the lines of a log no further one stands there
bad_further : (d : Draft) (r : Ratio) (text front rest : List ℕ) (count k : ℕ) (log : StepList) (before : ℕ) → HasIds text count → front ≡ first_lines count text → IsFirstBadLine IsLogText front k → 0 < length log.steps → AreSteps log.first log.steps → front ≡ text_of (step_lines log.first log.steps) ++ rest → log.first + length log.steps ≡ before + 1 → NoneBehind (Some before) rest → Stops (at_first_step d r count) text (length log.steps + 1)
bad_further d r text front rest count k log before has cut bad some are split last none =
    let lines = step_lines log.first log.steps in
    let size = length-step_lines log.first log.steps in
    let (more, le, whole, rest_is) = front_split lines count text rest (log_lines log some are) (sym cut ∙ split) in
    let lt : length log.steps < count = elim (cases_order (length lines) count) [
      | inl same ↦
          let zero_left : count - length lines ≡ 0 = omega (arith, same) in
          let nothing : rest ≡ [] = rest_is ∙ ap (λ n. first_lines n more) zero_left in
          let is_log : front ≡ text_of lines = split ∙ ap (λ bs. text_of lines ++ bs) nothing ∙ append-nil (text_of lines) in
          absurd (no_bad_line IsLogText front k (log, record { some = some; steps = are; spelled = is_log }) bad)
      | inr o ↦ elim o [ inl lt ↦ omega (arith, lt, size) | inr gt ↦ absurd (omega (arith, gt, le)) ]
    ] in
    behind_stop d r count text more log has some are lt whole (λ s behind is at.
    let id = log.first + length log.steps in
    let b = front_line (count - length lines) rest more (step_line id s) behind (step_line_is_line id s is) (omega (arith, lt, size)) rest_is at in
    none (step_line id s) (Some id) b.0 (record { id = id; step = s; is = is; spelled = refl; follows = last; reached = refl }) b.1)

-- a line among the steps is bad
pub run_bad : (d : Draft) (r : Ratio) (text front : List ℕ) (count k : ℕ) → 1 ≤ count → HasIds text count → front ≡ first_lines count text → IsFirstBadLine IsLogText front k → Stops (at_first_step d r count) text k
run_bad d r text front count k some has cut bad = by_front stuck.front stuck.lead stuck.split stuck.count where
  stuck : IsStuckBehind log_grammar front k
  stuck = stuck_behind log_grammar log_is_line_grammar front k (log_bad front k bad)

  by_front : (ls : List (List ℕ)) → Lead GoesTo None ls stuck.state → front ≡ text_of ls ++ stuck.rest → suc (length ls) ≡ k → Stops (at_first_step d r count) text k
  by_front [] lead split size =
      let one : 1 ≡ k = omega (arith, size) in
      subst (Stops (at_first_step d r count) text) one (bad_first d r text front stuck.rest count some cut split (subst (λ s. NoneBehind s stuck.rest) (sym lead) stuck.no_line))
  by_front (l ∷ ls) lead split size =
      let (log, some_steps, are, lines) = log_of_lines l ls stuck.state lead in
      let (before, state, last) = last_id log.first log.steps stuck.state some_steps are (subst (λ xs. Lead GoesTo None xs stuck.state) lines lead) in
      let count_is : length log.steps + 1 ≡ k = omega (arith, size, ap length lines, length-step_lines log.first log.steps) in
      subst (Stops (at_first_step d r count) text) count_is (bad_further d r text front stuck.rest count k log before has cut bad some_steps are (split ∙ ap (λ xs. text_of xs ++ stuck.rest) lines) last (subst (λ s. NoneBehind s stuck.rest) state stuck.no_line))

-- no more steps than bytes
pub run_fits : (text front rest : List ℕ) (log : StepList) → text ≡ front ++ rest → IsTextOf log front → length log.steps ≤ length text
run_fits text front rest log whole is =
    let lines = step_lines log.first log.steps in
    let size : length front ≡ length (text_of lines ++ []) = ap length (is.spelled ∙ sym (append-nil (text_of lines))) in
    omega (arith, lines_fit lines [], size, length-step_lines log.first log.steps, ap length whole, length-append front rest)

pub run_room : (text rest : List ℕ) (count : ℕ) (log : StepList) → IsRunAt text count log rest → count ≤ length text
run_room text rest count log run = omega (arith, lines_fit (step_lines log.first log.steps) rest, ap length run.spelled, length-step_lines log.first log.steps, run.whole)

-- a stop is at a line of the bytes, or behind the last
stop_fits : (s : State) (bytes : List ℕ) (k : ℕ) → Stops s bytes k → k ≤ length bytes + 1
stop_fits s bytes k x = omega (arith, lines_fit x.front x.rest, ap length x.split, x.count)

-- what is answered for the fault of a log

abbrev pub failed : StepFault → Result StepList StepFault
failed fault = Err fault

no_draft : Draft
no_draft = record { limits = record { area = 1; width = 1; height = 1 }; budget = 0; sections = [] }

pub fault_fits : (text front : List ℕ) (count before : ℕ) (fault : StepFault) → 1 ≤ count → HasIds text count → front ≡ first_lines count text → before + length text < 2 ^ 64 - 1 → ((k : ℕ) → failed fault ≡ failed (BadStep k) → IsFirstBadLine IsLogText front k) → FitsBehind before fault
fault_fits text front count before NoMemory some has cut room bad = tt
fault_fits text front count before (BadStep k) some has cut room bad =
    let r : Ratio = record { w = 1; h = 1 } in
    let fits = stop_fits (at_first_step no_draft r count) text k (run_bad no_draft r text front count k some has cut (bad k refl)) in
    omega (arith, fits, room)

pub fault_stops : (d : Draft) (r : Ratio) (text front : List ℕ) (count before : ℕ) (fault : StepFault) (result : CertFault) → 1 ≤ count → HasIds text count → front ≡ first_lines count text → ((k : ℕ) → failed fault ≡ failed (BadStep k) → IsFirstBadLine IsLogText front k) → result ≡ fault_behind before fault → StopsAt (at_first_step d r count) text before result
fault_stops d r text front count before fault result some has cut bad is = subst (StopsAt (at_first_step d r count) text before) (sym is) (by_fault fault bad) where
  by_fault : (f : StepFault) → ((k : ℕ) → failed f ≡ failed (BadStep k) → IsFirstBadLine IsLogText front k) → StopsAt (at_first_step d r count) text before (fault_behind before f)
  by_fault NoMemory bad = tt
  by_fault (BadStep k) bad = (k, refl, run_bad d r text front count k some has cut (bad k refl))
