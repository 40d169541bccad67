-- Bytes are the text of one log at most, and so a reader that answers what they read as answers what they are.
use Rattle.std.proofs.Common.{◌≡◌, ℕ, ◌+◌, List, [], ◌∷◌, ◌++◌, Result, Ok, Err, refl, sym, ◌∙◌, ap, subst, inl, arith, append_assoc}
use Rattle.std.specs.Prelude.{decimal, MatchResult}
use Rattle.bx_cnf.specs.Literals.{Literal, literal_text}
use Rattle.bx_lines.specs.Lines.{ended, text_of, IsFirstBadLine}
use Rattle.bx_lines.proofs.BadLines.{one_bad_line, no_bad_line}
use Rattle.bx_proof.specs.declared.fault.StepFault.{StepFault}
use Rattle.bx_proof.specs.declared.fault.StepFault.TheVariants.{BadStep, NoMemory}
use Rattle.bx_proof.specs.Steps.{Step, StepList, IsStep, AreSteps}
use Rattle.bx_proof.specs.Texts.{list_text, step_line, step_lines, IsTextOf, IsLogText, Reads}
use Rattle.bx_proof.specs.Readings.{IsStepAt}
use Rattle.bx_proof.proofs.Closed.{closed_stops}
use Rattle.bx_proof.proofs.StepLines.{step_of, number_of_line, step_literals, step_hints, follow_number, follow_literals, follow_hints}

-- the line of one step stands at the front of bytes
one_step : (bytes r r' : List ℕ) (id id' : ℕ) (s t : Step) → IsStepAt bytes id s r → IsStepAt bytes id' t r' → (id' ≡ id) × (t ≡ s) × (r' ≡ r)
one_step bytes r r' id id' s t a b =
    let rest = list_text decimal t.hints ++ 10 ∷ r' in
    let (same, literals_at) = follow_number bytes id id' s r (list_text literal_text t.literals ++ rest) (omega (arith, b.step.numbered)) a (number_of_line bytes id' t (10 ∷ r') b.spelled) in
    let (literals, hints_at) = follow_literals id s r (list_text literal_text t.literals ++ rest) rest t.literals a.step literals_at (step_literals id' t b.step) (record { spelled = refl; stops = closed_stops decimal t.hints (10 ∷ r') }) in
    let (hints, end) = follow_hints id s r rest (10 ∷ r') t.hints a.step hints_at (step_hints id' t b.step) (record { spelled = refl; stops = inl (omega arith) }) in
    let step : t ≡ s = ap (λ (ls : List Literal). step_of ls t.hints) literals ∙ ap (λ (hs : List ℕ). step_of s.literals hs) hints in
    (same, step, (cc))

-- the first of some steps stands at the front of their text
first_at : (id : ℕ) (s : Step) (ss : List Step) → IsStep id s → IsStepAt (text_of (step_lines id (s ∷ ss))) id s (text_of (step_lines (id + 1) ss))
first_at id s ss is = record { step = is; spelled = append_assoc (step_line id s) (10 ∷ []) (text_of (step_lines (id + 1) ss)) }

no_text : (line more : List ℕ) → [] ≡ ended line ++ more → ⊥
no_text [] more e = cc
no_text (b ∷ bs) more e = cc

same_steps : (id : ℕ) (ss ts : List Step) → AreSteps id ss → AreSteps id ts → text_of (step_lines id ss) ≡ text_of (step_lines id ts) → ss ≡ ts
same_steps id [] [] a b e = refl
same_steps id [] (t ∷ ts) a b e = absurd (no_text (step_line id t) (text_of (step_lines (id + 1) ts)) e)
same_steps id (s ∷ ss) [] a b e = absurd (no_text (step_line id s) (text_of (step_lines (id + 1) ss)) (sym e))
same_steps id (s ∷ ss) (t ∷ ts) a b e =
    let there = subst (λ bytes. IsStepAt bytes id t (text_of (step_lines (id + 1) ts))) (sym e) (first_at id t ts b.0) in
    let (ids, steps, rests) = one_step (text_of (step_lines id (s ∷ ss))) (text_of (step_lines (id + 1) ss)) (text_of (step_lines (id + 1) ts)) id id s t (first_at id s ss a.0) there in
    ap (λ x. x ∷ ss) (sym steps) ∙ ap (λ xs. t ∷ xs) (same_steps (id + 1) ss ts a.1 b.1 (sym rests))

abbrev log : ℕ → List Step → StepList
log first steps = record { first = first; steps = steps }

pub one_log : (bytes : List ℕ) (a b : StepList) → IsTextOf a bytes → IsTextOf b bytes → a ≡ b
one_log bytes a b is_a is_b = by_steps a.first b.first a.steps b.steps is_a is_b where
  by_steps : (first other : ℕ) (ss ts : List Step) → IsTextOf (log first ss) bytes → IsTextOf (log other ts) bytes → log first ss ≡ log other ts
  by_steps first other [] ts a b = absurd (let some = a.some in omega (arith, some))
  by_steps first other (s ∷ ss) [] a b = absurd (let some = b.some in omega (arith, some))
  by_steps first other (s ∷ ss) (t ∷ ts) a b =
      let same : text_of (step_lines other (t ∷ ts)) ≡ text_of (step_lines first (s ∷ ss)) = sym b.spelled ∙ a.spelled in
      let there = subst (λ xs. IsStepAt xs other t (text_of (step_lines (other + 1) ts))) same (first_at other t ts b.steps.0) in
      let (ids, steps, rests) = one_step (text_of (step_lines first (s ∷ ss))) (text_of (step_lines (first + 1) ss)) (text_of (step_lines (other + 1) ts)) first other s t (first_at first s ss a.steps.0) there in
      let are : AreSteps (first + 1) ts = subst (λ n. AreSteps (n + 1) ts) ids b.steps.1 in
      let texts : text_of (step_lines (first + 1) ss) ≡ text_of (step_lines (first + 1) ts) = sym rests ∙ ap (λ n. text_of (step_lines (n + 1) ts)) ids in
      ap (λ n. log n (s ∷ ss)) (sym ids) ∙ ap (λ x. log other (x ∷ ss)) (sym steps) ∙ ap (λ xs. log other (t ∷ xs)) (same_steps (first + 1) ss ts a.steps.1 are texts)

-- what is answered, where bytes are the text of a log, and where they have a first bad line

pub answers_only : (text : List ℕ) (r : Result StepList StepFault) → Reads text r → (log : StepList) → IsTextOf log text → MatchResult r (λ steps. steps ≡ log) (λ fault. fault ≡ NoMemory)
answers_only text (Ok steps) reads log is = one_log text steps log reads is
answers_only text (Err (BadStep k)) reads log is = absurd (no_bad_line IsLogText text k (log, is) reads)
answers_only text (Err NoMemory) reads log is = refl

pub answers_exact : (text : List ℕ) (r : Result StepList StepFault) → Reads text r → (k : ℕ) → IsFirstBadLine IsLogText text k → (r ≡ Err NoMemory → ⊥) → r ≡ Err (BadStep k)
answers_exact text (Ok steps) reads k is some = absurd (no_bad_line IsLogText text k (steps, reads) is)
answers_exact text (Err (BadStep j)) reads k is some = ap (λ n. Err (BadStep n)) (one_bad_line IsLogText text j k reads is)
answers_exact text (Err NoMemory) reads k is some = absurd (some refl)

pub answers_bad : (text : List ℕ) (r : Result StepList StepFault) → Reads text r → (k : ℕ) → r ≡ Err (BadStep k) → IsFirstBadLine IsLogText text k
answers_bad text r reads k e = subst (Reads text) e reads
