-- Steps that pass, one after the other, and the first that fails.
use Rattle.std.proofs.Common.{◌≡◌, ℕ, zero, suc, ◌+◌, ◌<◌, ◌≤◌, Bool, true, false, List, [], ◌∷◌, length, get_or, take, Option, Some, None, refl, sym, ◌∙◌, ap, subst, inl, inr, arith}
use Rattle.std.proofs.Math.Seq.{take-nil}
use Rattle.std.proofs.lemmas.Bool.{cases_eq, cases_lt}
use Rattle.std.proofs.lemmas.List.{length-take-le}
use Rattle.std.proofs.lemmas.Option.{slice_get_within, slice_get-get_or}
use Rattle.std.specs.Prelude.{◌↔◌, not, slice_get, All}
use Rattle.std.specs.Option.{is_some}
use Rattle.bx_cnf.specs.Literals.{Literal}
use Rattle.bx_cnf.specs.Formulas.{Formula}
use Rattle.bx_proof.specs.Steps.{Step, StepList}
use Rattle.bx_proof.specs.Accepted.{Follows, with_steps, IsAccepted}
use Rattle.bx_check.specs.Passing.{PassUpTo, AllPass, IsFirstFailure, AreWithin, IsEnded}
use Rattle.bx_check.proofs.Lefts.{get_take, get_take_within}

-- steps that pass are over the variables of the formula
pub pass_within : (formula : Formula) (steps : List Step) (n : ℕ) → PassUpTo formula steps n → AreWithin formula.vars (take n steps)
pass_within formula steps n pass k x within =
    let s : Step = get_or (take n steps) k x in
    let at : slice_get (take n steps) k ≡ Some s = slice_get-get_or (take n steps) k x within in
    let lt : k < n = get_take_within steps n k s at in
    (pass k s lt (sym (get_take steps n k lt) ∙ at)).within

-- of two first failures neither is before the other
not_before : (formula : Formula) (steps : List Step) (j k : ℕ) → IsFirstFailure formula steps j → IsFirstFailure formula steps k → j < k → ⊥
not_before formula steps j k a b lt = a.fails (b.before j a.step lt a.stands)

one_failure : (formula : Formula) (steps : List Step) (j k : ℕ) → IsFirstFailure formula steps j → IsFirstFailure formula steps k → j ≡ k
one_failure formula steps j k a b =
    elim (cases_lt j k) [
      | inl lt ↦ absurd (not_before formula steps j k a b lt)
      | inr ge ↦ elim (cases_lt k j) [
        | inl gt ↦ absurd (not_before formula steps k j b a gt)
        | inr le ↦ omega (arith, ge, le)
      ]
    ]

pub failure_exact : (formula : Formula) (steps : List Step) (k : ℕ) → IsFirstFailure formula steps k → (j : ℕ) → (Some k ≡ Some j) ↔ IsFirstFailure formula steps j
failure_exact formula steps k first j =
    (λ e. let same : k ≡ j = cc in subst (IsFirstFailure formula steps) same first, λ other. ap Some (one_failure formula steps k j first other))

-- a value is there
some_never : (k : ℕ) → Some k ≡ None → ⊥
some_never k e = cc

none_never : (k : ℕ) → None ≡ Some k → ⊥
none_never k e = cc

pub failure_not_all : (formula : Formula) (steps : List Step) (k : ℕ) → IsFirstFailure formula steps k → (Some k ≡ None) ↔ AllPass formula steps
failure_not_all formula steps k first =
    (λ e. absurd (some_never k e), λ all. absurd (first.fails (all k first.step (slice_get_within steps k first.step first.stands) first.stands)))

-- where all pass none fails
pub all_none : (formula : Formula) (steps : List Step) → AllPass formula steps → (j : ℕ) → (None ≡ Some j) ↔ IsFirstFailure formula steps j
all_none formula steps all j =
    (λ e. absurd (none_never j e), λ first. absurd (first.fails (all j first.step (slice_get_within steps j first.step first.stands) first.stands)))

-- a log is accepted where all its steps pass and the last, and no other, is empty
pub accepted_of : (formula : Formula) (log : StepList) → 0 < length log.steps → log.first ≡ length formula.clauses + 1 → IsEnded log.steps → AllPass formula log.steps ↔ IsAccepted formula log
accepted_of formula log some numbered ended = (
  λ all. record {
    some = some;
    numbered = numbered;
    shaped = record {
      within = λ k x lt. (all k (get_or log.steps k x) lt (slice_get-get_or log.steps k x lt)).within;
      ended = ended;
    };
    follows = λ k s at. (all k s (slice_get_within log.steps k s at) at).follows;
  },
  λ accepted k s lt at. record {
    within = subst (λ (t : Step). All (λ (l : Literal). l.var ≤ formula.vars) t.literals) (read k s lt at) (accepted.shaped.within k s lt);
    follows = accepted.follows k s at;
  },
) where
  read : (k : ℕ) (s : Step) → k < length log.steps → slice_get log.steps k ≡ Some s → get_or log.steps k s ≡ s
  read k s lt at = let e : Some (get_or log.steps k s) ≡ Some s = sym (slice_get-get_or log.steps k s lt) ∙ at in cc

pub all_pass : (formula : Formula) (steps : List Step) (n : ℕ) → length steps ≤ n → PassUpTo formula steps n → AllPass formula steps
all_pass formula steps n le pass k s lt at = pass k s (omega (arith, lt)) at

-- no failure is that all pass
pub accepted_exact : (failure : Option ℕ) (r : Bool) (formula : Formula) (log : StepList) → is_some failure ≡ not r → (failure ≡ None) ↔ AllPass formula log.steps → AllPass formula log.steps ↔ IsAccepted formula log → (r ≡ true) ↔ IsAccepted formula log
accepted_exact None true formula log e pass accepted = (λ _. accepted.0 (pass.0 refl), λ _. refl)
accepted_exact None false formula log e pass accepted = let never : ⊥ = cc in absurd never
accepted_exact (Some k) true formula log e pass accepted = let never : ⊥ = cc in absurd never
accepted_exact (Some k) false formula log e pass accepted =
    (λ wrong. let never : ⊥ = cc in absurd never, λ is. absurd (some_never k (pass.1 (accepted.1 is))))

take_front : {X : Type 0} (xs : List X) (k n : ℕ) → k ≤ n → take k (take n xs) ≡ take k xs
take_front xs zero n le = refl
take_front [] (suc k) n le = ap (take (suc k)) (take-nil n)
take_front (x ∷ xs) (suc k) zero le = absurd (omega arith)
take_front (x ∷ xs) (suc k) (suc n) le = ap (λ ys. x ∷ ys) (take_front xs k n (omega arith))

-- steps that pass, up to the first empty one, are accepted
pub front_accepted : (formula : Formula) (steps : List Step) (k : ℕ) (step : Step) → PassUpTo formula steps (k + 1) → slice_get steps k ≡ Some step → step.literals ≡ [] → ((j : ℕ) (s : Step) → j < k → slice_get steps j ≡ Some s → s.literals ≡ [] → ⊥) → IsAccepted formula (record { first = length formula.clauses + 1; steps = take (k + 1) steps })
front_accepted formula steps k step pass at empty none = record {
  some = omega (arith, size);
  numbered = refl;
  shaped = record { within = pass_within formula steps (k + 1) pass; ended = ended };
  follows = λ j s there.
      let lt : j < k + 1 = get_take_within steps (k + 1) j s there in
      subst (λ ss. Follows (with_steps formula.clauses ss) s) (sym (take_front steps j (k + 1) (omega (arith, lt)))) (pass j s lt (sym (get_take steps (k + 1) j lt) ∙ there)).follows;
} where
  size : length (take (k + 1) steps) ≡ k + 1
  size = let lt : k < length steps = slice_get_within steps k step at in length-take-le (k + 1) steps (omega (arith, lt))

  ended : (j : ℕ) (s : Step) → slice_get (take (k + 1) steps) j ≡ Some s → (s.literals ≡ []) ↔ (j + 1 ≡ length (take (k + 1) steps))
  ended j s there =
      let lt : j < k + 1 = get_take_within steps (k + 1) j s there in
      let own : slice_get steps j ≡ Some s = sym (get_take steps (k + 1) j lt) ∙ there in
      elim (cases_eq j k) [
        | inl same ↦
            let e : Some s ≡ Some step = sym own ∙ ap (slice_get steps) same ∙ at in
            let is : s ≡ step = cc in
            (λ _. omega (arith, size, same), λ _. ap (λ (t : Step). t.literals) is ∙ empty)
        | inr ne ↦ (λ nil. absurd (none j s (omega (arith, ne, lt)) own nil), λ last. absurd (ne (omega (arith, last, size))))
      ]
