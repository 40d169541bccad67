-- A log that is accepted refutes its formula.
use Rattle.std.proofs.Common.{◌≡◌, ℕ, zero, suc, ◌+◌, ◌-◌, ◌<◌, ◌≤◌, Bool, List, [], ◌∷◌, ◌++◌, length, get_or, take, Some, refl, sym, ◌∙◌, ap, subst, inl, inr, arith, append_assoc, map, Result, Ok, Err}
use Rattle.std.proofs.Math.Seq.{take-suc}
use Rattle.std.proofs.lemmas.List.{append-nil}
use Rattle.std.proofs.lemmas.List.Elements.{All-nil, All-cons, All-push}
use Rattle.std.proofs.lemmas.Option.{slice_get-get_or, slice_get_within}
use Rattle.std.specs.Prelude.{◌⊎◌, ◌↔◌, slice_get, All, IfOk, IsTrue}
use Rattle.bx_cnf.specs.Literals.{Literal, negated, IsLiteralTrue}
use Rattle.bx_cnf.specs.Formulas.{Formula, IsClauseTrue, AllTrue}
use Rattle.bx_cnf.proofs.Formulas.{true_at}
use Rattle.bx_cnf.proofs.Propagation.{true_or_false, empty_never, conflict_sound, propagated_sound}
use Rattle.bx_proof.specs.Steps.{Step, StepList}
use Rattle.bx_proof.specs.Accepted.{LeadsToFalse, Follows, with_steps, IsAccepted}
use Rattle.bx_check.specs.Passing.{PassUpTo}

-- a clause is true, or the negations of all its literals are
true_or_refuted : (bits : List Bool) (clause : List Literal) → IsClauseTrue bits clause ⊎ All (IsLiteralTrue bits) (map negated clause)
true_or_refuted bits [] = inr (All-nil (IsLiteralTrue bits))
true_or_refuted bits (l ∷ ls) =
    elim (true_or_false bits l) [
      | inl h ↦ inl (0, l, omega arith, refl, h)
      | inr h ↦ elim (true_or_refuted bits ls) [ inl t ↦ inl (later t) | inr f ↦ inr (All-cons (IsLiteralTrue bits) (negated l) (map negated ls) h f) ]
    ] where
      later : IsClauseTrue bits ls → IsClauseTrue bits (l ∷ ls)
      later t = (suc t.0, t.1, omega (arith, t.2), t.3, t.4)

leads_sound : (bits : List Bool) (clauses : List (List Literal)) (trues : List Literal) (hints : List ℕ) → AllTrue bits clauses → All (IsLiteralTrue bits) trues → LeadsToFalse clauses trues hints → ⊥
leads_sound bits clauses trues [] all holds leads = leads
leads_sound bits clauses trues (hint ∷ hints) all holds leads =
    let (clause, above, at, how) = leads in
    let is_true : IsClauseTrue bits clause = true_at bits clauses (hint - 1) clause at all in
    elim how [
      | inl end ↦ conflict_sound bits trues clause holds end.0 is_true
      | inr go ↦ leads_sound bits clauses (trues ++ go.0 ∷ []) hints all (All-push (IsLiteralTrue bits) trues go.0 holds (propagated_sound bits trues clause go.0 holds go.1 is_true)) go.2
    ]

pub step_sound : (clauses : List (List Literal)) (step : Step) (bits : List Bool) → Follows clauses step → AllTrue bits clauses → IsClauseTrue bits step.literals
step_sound clauses step bits follows all =
    elim (true_or_refuted bits step.literals) [
      | inl t ↦ t
      | inr f ↦ absurd (leads_sound bits clauses (map negated step.literals) step.hints all f follows)
    ]

-- one step more
pub with_steps_push : (clauses : List (List Literal)) (steps : List Step) (s : Step) → with_steps clauses (steps ++ s ∷ []) ≡ with_steps clauses steps ++ s.literals ∷ []
with_steps_push clauses steps s = ap (λ ls. clauses ++ ls) (mapped steps) ∙ sym (append_assoc clauses (map (λ (t : Step). t.literals) steps) (s.literals ∷ [])) where
  mapped : (ss : List Step) → map (λ (t : Step). t.literals) (ss ++ s ∷ []) ≡ map (λ (t : Step). t.literals) ss ++ s.literals ∷ []
  mapped [] = refl
  mapped (t ∷ ss) = ap (λ ls. t.literals ∷ ls) (mapped ss)

pub no_step : Step
no_step = record { literals = []; hints = [] }

-- where the first steps, so many, follow, they are true where the clauses are
up_to : (bits : List Bool) (clauses : List (List Literal)) (steps : List Step) (k : ℕ) → k ≤ length steps → ((j : ℕ) (s : Step) → j < k → slice_get steps j ≡ Some s → Follows (with_steps clauses (take j steps)) s) → AllTrue bits clauses → AllTrue bits (with_steps clauses (take k steps))
up_to bits clauses steps zero le each all = subst (AllTrue bits) (sym (append-nil clauses)) all
up_to bits clauses steps (suc k) le each all =
    let s : Step = get_or steps k no_step in
    let before : AllTrue bits (with_steps clauses (take k steps)) = up_to bits clauses steps k (omega arith) (λ j t lt at. each j t (omega (arith, lt)) at) all in
    let here : IsClauseTrue bits s.literals = step_sound (with_steps clauses (take k steps)) s bits (each k s (omega arith) (slice_get-get_or steps k no_step (omega arith))) before in
    let more : with_steps clauses (take (suc k) steps) ≡ with_steps clauses (take k steps) ++ s.literals ∷ [] = ap (with_steps clauses) (take-suc steps k no_step (omega arith)) ∙ with_steps_push clauses (take k steps) s in
    subst (AllTrue bits) (sym more) (All-push (IsClauseTrue bits) (with_steps clauses (take k steps)) s.literals before here)

pub accepted_sound : (formula : Formula) (log : StepList) (bits : List Bool) → IsAccepted formula log → AllTrue bits formula.clauses → ⊥
accepted_sound formula log bits accepted all =
    let k : ℕ = length log.steps - 1 in
    let s : Step = get_or log.steps k no_step in
    let stands : slice_get log.steps k ≡ Some s = slice_get-get_or log.steps k no_step (omega (arith, accepted.some)) in
    let before : AllTrue bits (with_steps formula.clauses (take k log.steps)) = up_to bits formula.clauses log.steps k (omega arith) (λ j t lt at. accepted.follows j t at) all in
    let here : IsClauseTrue bits s.literals = step_sound (with_steps formula.clauses (take k log.steps)) s bits (accepted.follows k s stands) before in
    let empty : s.literals ≡ [] = (accepted.shaped.ended k s stands).1 (omega (arith, accepted.some)) in
    empty_never bits (subst (IsClauseTrue bits) empty here)

-- steps that pass up to an empty one refute the formula
pub passed_sound : (formula : Formula) (steps : List Step) (k : ℕ) (step : Step) (bits : List Bool) → PassUpTo formula steps (k + 1) → slice_get steps k ≡ Some step → step.literals ≡ [] → AllTrue bits formula.clauses → ⊥
passed_sound formula steps k step bits pass at empty all =
    let lt : k < length steps = slice_get_within steps k step at in
    let before : AllTrue bits (with_steps formula.clauses (take k steps)) = up_to bits formula.clauses steps k (omega (arith, lt)) (λ j t le there. (pass j t (omega (arith, le)) there).follows) all in
    empty_never bits (subst (IsClauseTrue bits) empty (step_sound (with_steps formula.clauses (take k steps)) step bits (pass k step (omega arith) at).follows before))

-- an exact answer is a sound one
pub sound_of : {E : Type 0} (r : Result Bool E) (formula : Formula) (log : StepList) → IfOk r (λ yes. IsTrue yes ↔ IsAccepted formula log) → IfOk r (λ yes. IsTrue yes → (bits : List Bool) → AllTrue bits formula.clauses → ⊥)
sound_of (Ok b) formula log exact = λ is bits all. accepted_sound formula log bits (exact.0 is) all
sound_of (Err e) formula log exact = tt
