-- Steps of clauses and hints: how many there are, which stands at a place, and one more behind them.
use Rattle.std.proofs.Common.{◌≡◌, ℕ, zero, suc, ◌+◌, ◌^◌, ◌<◌, ◌≤◌, List, [], ◌∷◌, ◌++◌, length, Option, Some, None, refl, sym, ap, ◌∙◌, subst, arith, length-append, false, Result, Ok, Err}
use Rattle.std.specs.Prelude.{slice_get, OnOk, is_err}
use Rattle.std.specs.Option.{option_map}
use Rattle.bx_cnf.specs.Literals.{Literal}
use Rattle.bx_proof.specs.Steps.{Step, StepList, IsStep, AreSteps, steps_of, IsLog}

pub length-steps_of : (literals : List (List Literal)) (hints : List (List ℕ)) → length hints ≡ length literals → length (steps_of literals hints) ≡ length literals
length-steps_of [] hints same = refl
length-steps_of (l ∷ ls) [] same = absurd (omega arith)
length-steps_of (l ∷ ls) (h ∷ hs) same = ap suc (length-steps_of ls hs (omega arith))

pub literals_at : (literals : List (List Literal)) (hints : List (List ℕ)) (k : ℕ) → length hints ≡ length literals → option_map (λ (s : Step). s.literals) (slice_get (steps_of literals hints) k) ≡ slice_get literals k
literals_at [] hints k same = refl
literals_at (l ∷ ls) [] k same = absurd (omega arith)
literals_at (l ∷ ls) (h ∷ hs) zero same = refl
literals_at (l ∷ ls) (h ∷ hs) (suc k) same = literals_at ls hs k (omega arith)

pub hints_at : (literals : List (List Literal)) (hints : List (List ℕ)) (k : ℕ) → length hints ≡ length literals → option_map (λ (s : Step). s.hints) (slice_get (steps_of literals hints) k) ≡ slice_get hints k
hints_at [] [] k same = refl
hints_at [] (h ∷ hs) k same = absurd (omega arith)
hints_at (l ∷ ls) [] k same = absurd (omega arith)
hints_at (l ∷ ls) (h ∷ hs) zero same = refl
hints_at (l ∷ ls) (h ∷ hs) (suc k) same = hints_at ls hs k (omega arith)

pub steps_push : (literals : List (List Literal)) (hints : List (List ℕ)) (l : List Literal) (h : List ℕ) → length hints ≡ length literals → steps_of (literals ++ l ∷ []) (hints ++ h ∷ []) ≡ steps_of literals hints ++ record { literals = l; hints = h } ∷ []
steps_push [] [] l h same = refl
steps_push [] (g ∷ gs) l h same = absurd (omega arith)
steps_push (k ∷ ks) [] l h same = absurd (omega arith)
steps_push (k ∷ ks) (g ∷ gs) l h same = ap (λ ss. record { literals = k; hints = g } ∷ ss) (steps_push ks gs l h (omega arith))

pub are_steps_push : (id : ℕ) (steps : List Step) (step : Step) → AreSteps id steps → IsStep (id + length steps) step → AreSteps id (steps ++ step ∷ [])
are_steps_push id [] step h is = let at : id + 0 ≡ id = omega arith in (subst (λ n. IsStep n step) at is, tt)
are_steps_push id (s ∷ ss) step h is =
    let at : id + suc (length ss) ≡ id + 1 + length ss = omega arith in
    (h.0, are_steps_push (id + 1) ss step h.1 (subst (λ n. IsStep n step) at is))

-- a step has an id of at least 2, since its hints name clauses before it
id_low : (id : ℕ) (step : Step) → IsStep id step → 1 < id
id_low id step is = let first = is.before 0 0 is.hinted in omega (arith, first.0, first.1)

-- ids stay below their bound, so there are no more steps than that
pub steps_fit : (id : ℕ) (steps : List Step) → AreSteps id steps → 0 < length steps → (1 < id) × (id + length steps ≤ 2 ^ 32)
steps_fit id [] h some = absurd (omega arith)
steps_fit id (s ∷ []) h some = (id_low id s h.0, omega (arith, h.0.numbered))
steps_fit id (s ∷ t ∷ ss) h some =
    let rest = steps_fit (id + 1) (t ∷ ss) h.1 (omega arith) in
    (id_low id s h.0, omega (arith, rest.1))

pub steps_count : (id : ℕ) (steps : List Step) → AreSteps id steps → length steps < 2 ^ 32
steps_count id [] h = omega arith
steps_count id (s ∷ ss) h = let fit = steps_fit id (s ∷ ss) h (omega arith) in omega (arith, fit.0, fit.1)

-- the fact of a result that isn't an error, and of any result
pub at_ok : {T E P : Type 0} (r : Result T E) → is_err r ≡ false → OnOk r P → P
at_ok (Ok x) e h = h
at_ok (Err d) e h = let never : ⊥ = cc in absurd never

pub on_ok : {T E P : Type 0} (r : Result T E) → P → OnOk r P
on_ok (Ok x) h = h
on_ok (Err d) h = tt

-- as many steps as clauses
pub counted : (first : ℕ) (literals : List (List Literal)) (hints : List (List ℕ)) (log : StepList) → IsLog first literals hints → record { first = first; steps = steps_of literals hints } ≡ log → length literals ≡ length log.steps
counted first literals hints log is view = sym (length-steps_of literals hints is.same) ∙ ap (λ (v : StepList). length v.steps) view

pub few : (first : ℕ) (literals : List (List Literal)) (hints : List (List ℕ)) → IsLog first literals hints → length literals < 2 ^ 32
few first literals hints is = let count = steps_count first (steps_of literals hints) is.steps in let size = length-steps_of literals hints is.same in omega (arith, count, size)

abbrev pub log_of : ℕ → List Step → StepList
log_of first steps = record { first = first; steps = steps }

-- what a push leaves
pub log_push : (first : ℕ) (literals literals' : List (List Literal)) (hints hints' : List (List ℕ)) (l : List Literal) (h : List ℕ) (log : StepList) → literals' ≡ literals ++ l ∷ [] → hints' ≡ hints ++ h ∷ [] → IsLog first literals hints → record { first = first; steps = steps_of literals hints } ≡ log → IsStep (log.first + length log.steps) (record { literals = l; hints = h }) → IsLog first literals' hints' × (log_of first (steps_of literals' hints') ≡ log_of log.first (log.steps ++ record { literals = l; hints = h } ∷ []))
log_push first literals literals' hints hints' l h log more_literals more_hints is view step =
    let s : Step = record { literals = l; hints = h } in
    let old : List Step = steps_of literals hints in
    let grown : steps_of literals' hints' ≡ old ++ s ∷ [] = ap (λ ls. steps_of ls hints') more_literals ∙ ap (steps_of (literals ++ l ∷ [])) more_hints ∙ steps_push literals hints l h is.same in
    let own : IsStep (first + length old) s = subst (λ (v : StepList). IsStep (v.first + length v.steps) s) (sym view) step in
    let one : length hints + 1 ≡ length literals + 1 = omega (arith, is.same) in
    let same : length hints' ≡ length literals' = ap length more_hints ∙ length-append hints (h ∷ []) ∙ one ∙ sym (ap length more_literals ∙ length-append literals (l ∷ [])) in (
      record { same = same; steps = subst (AreSteps first) (sym grown) (are_steps_push first old s is.steps own) },
      ap (log_of first) grown ∙ ap (λ (v : StepList). log_of v.first (v.steps ++ s ∷ [])) view,
    )

-- the step at a place is one of its id
pub step_is : (id : ℕ) (steps : List Step) (k : ℕ) (s : Step) → AreSteps id steps → slice_get steps k ≡ Some s → IsStep (id + k) s
step_is id [] k s h at = let never : ⊥ = cc in absurd never
step_is id (t ∷ ts) zero s h at =
    let same : t ≡ s = cc in
    let here : id ≡ id + 0 = omega arith in
    subst (λ n. IsStep n s) here (subst (IsStep id) same h.0)
step_is id (t ∷ ts) (suc k) s h at = let here : id + 1 + k ≡ id + suc k = omega arith in subst (λ n. IsStep n s) here (step_is (id + 1) ts k s h.1 at)

-- the step of which a part was read
pub step_read : {B : Type 0} (f : Step → B) (o : Option Step) (x : B) → option_map f o ≡ Some x → (s : Step) × (o ≡ Some s) × (f s ≡ x)
step_read f None x e = let never : ⊥ = cc in absurd never
step_read f (Some s) x e = (s, refl, (cc))

pub part_is : {B : Type 0} (f : Step → B) (first : ℕ) (literals : List (List Literal)) (hints : List (List ℕ)) (log : StepList) (k : ℕ) (x : B) → IsLog first literals hints → record { first = first; steps = steps_of literals hints } ≡ log → option_map f (slice_get log.steps k) ≡ Some x → (s : Step) × IsStep (log.first + k) s × (f s ≡ x)
part_is f first literals hints log k x is view read =
    let (s, at, same) = step_read f (slice_get log.steps k) x read in
    let are : AreSteps log.first log.steps = subst (λ (v : StepList). AreSteps v.first v.steps) view is.steps in
    (s, step_is log.first log.steps k s are at, same)
